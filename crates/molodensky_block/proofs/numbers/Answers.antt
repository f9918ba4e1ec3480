-- By what `unwrap_or` ensures; zero over zero is NaN (`unwrapped`). Assumes nothing.
use mathlib.Core.Path.{◌∙◌}
use Rattle.floats.proofs.Nan.{zero_over_zero}
use Rattle.molodensky_block.proofs.Block.{unwrapped}
use Rattle.molodensky_block.proofs.numbers.Goals as goal

pub returns : goal.returns
returns c = c.unwrap_or.ensures ∙ unwrapped c.args.offsets zero_over_zero
