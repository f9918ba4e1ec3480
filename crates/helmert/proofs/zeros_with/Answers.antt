-- Zero over zero is NaN, which stands for a time that is not given. Assumes nothing.
use Rattle.floats.proofs.Nan.{zero_over_zero}
use Rattle.helmert.specs.Record.{zeros_with}
use Rattle.helmert.proofs.zeros_with.Goals as goal

pub returns : goal.returns
unfolding zeros_with
returns c = rw zero_over_zero
