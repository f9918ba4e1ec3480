-- Zero over zero is NaN. Assumes nothing.
use Rattle.floats.proofs.Nan.{zero_over_zero}
use Rattle.helmert.specs.Modes.{start_of}
use Rattle.helmert.proofs.start.Goals as goal

pub returns : goal.returns
unfolding start_of
returns c = rw zero_over_zero
