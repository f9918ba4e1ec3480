-- By `zero_over_zero`. Assumes nothing.
use Rattle.floats.proofs.Nan.{zero_over_zero}
use Rattle.deformation.proofs.Deformation.blank.Goals as goal

pub returns : goal.returns
returns c = rw zero_over_zero
