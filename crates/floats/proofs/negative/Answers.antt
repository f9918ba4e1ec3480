-- One case for each way through the tests. Each by `nan_if_differs`, `no_nan_if_equal` and
-- `sign_is_the_highest_bit`. Assumes nothing.
use Rattle.floats.specs.Number.{sign_of}
use mathlib.Core.Path.{sym, subst}
use lib.Dec.{T}
use Rattle.floats.proofs.Nan.{nan_if_differs, no_nan_if_equal}
use Rattle.floats.proofs.Values.{sign_is_the_highest_bit}
use Rattle.floats.proofs.negative.Goals as goal

pub float_to_bits-result : goal.float_to_bits-result
float_to_bits-result c = no_nan_if_equal c.args.x c.if-x.false

pub returns-then-x : goal.returns-then-x
unfolding sign_of
returns-then-x c = rw (nan_if_differs c.args.x c.if-x.true)

pub returns-else-x : goal.returns-else-x
returns-else-x c =
    sign_is_the_highest_bit c.args.x (subst T (sym c.well_formed.0.1) tt) (no_nan_if_equal c.args.x c.if-x.false)
