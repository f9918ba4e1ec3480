-- One case for each way through the tests. Each by `zero_over_zero`, from what the calls ensure.
-- Assumes nothing.
use Rattle.floats.proofs.Nan.{zero_over_zero}
use Rattle.geocart.specs.Geocart.{pole_of}
use Rattle.geocart.proofs.pole.Goals as goal

pub returns-then-is_nan : goal.returns-then-is_nan
unfolding pole_of
returns-then-is_nan c = rw (zero_over_zero, ← c.is_nan.ensures, c.if-is_nan.true)

pub returns-else-is_nan : goal.returns-else-is_nan
unfolding pole_of
returns-else-is_nan c = rw (c.copysign.ensures, ← c.is_nan.ensures, c.if-is_nan.false)
