-- Only a NaN differs from itself. Assumes nothing.
use lib.Ieee.{to_bits}
use Rattle.floats.proofs.Nan.{nan_if_differs, no_nan_if_equal}
use Rattle.floats.proofs.to_bits.Goals as goal

pub float_to_bits-result : goal.float_to_bits-result
float_to_bits-result c = no_nan_if_equal c.args.x c.if-x.false

pub returns-then-x : goal.returns-then-x
unfolding to_bits
returns-then-x c = rw (nan_if_differs c.args.x c.if-x.true)
