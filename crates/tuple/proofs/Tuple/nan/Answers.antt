-- Zero over zero is NaN. Assumes nothing.
use Rattle.floats.proofs.Nan.{zero_over_zero}
use Rattle.tuple.proofs.Tuple.nan.Goals as goal

pub returns : goal.returns
returns c = rw zero_over_zero
