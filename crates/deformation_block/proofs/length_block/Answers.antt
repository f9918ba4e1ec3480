-- By `told`, from what the calls ensure. Assumes nothing.
use mathlib.Core.Path.{ap}
use Rattle.blocks.proofs.Laws.{told}
use Rattle.root.specs.Sqrt.{sqrt_of}
use Rattle.deformation_block.proofs.length_block.Goals as goal

pub returns : goal.returns
returns c = told (λ j i. ap sqrt_of (c.square_block.ensures.held j i)) c.sqrt_block.ensures
