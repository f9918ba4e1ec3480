-- The first none of any bytes. Assumes nothing.
use mathlib.Core.Path.{refl}
use Rattle.chain.proofs.no_grid.Goals as goal

pub returns : goal.returns
returns c = refl
