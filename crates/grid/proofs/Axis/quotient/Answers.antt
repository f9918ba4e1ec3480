-- One difference and one quotient. Assumes nothing.
use Rattle.grid.specs.Lookup.{quotient_of}
use Rattle.std.proofs.Common.{refl}
use Rattle.grid.proofs.Axis.quotient.Goals as goal

pub returns : goal.returns
unfolding quotient_of
returns c = refl
