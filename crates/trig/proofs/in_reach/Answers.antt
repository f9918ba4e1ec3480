-- One case for each way through the tests. Assumes nothing.
use lib.Ieee.{eq, lt, le}
use Rattle.floats.specs.Number.{sign_of}
use Rattle.floats.proofs.Nan.{nan_if_differs}
use Rattle.trig.specs.Trig.{out_of_reach}
use Rattle.trig.proofs.in_reach.Goals as goal

pub returns-then-x : goal.returns-then-x
unfolding out_of_reach sign_of eq le lt
returns-then-x c = rw (nan_if_differs _ c.if-x.true)

pub returns-then-a : goal.returns-then-a
unfolding out_of_reach
returns-then-a c = rw (← c.abs-a.ensures, c.if-a.true)

pub returns-else-a : goal.returns-else-a
unfolding out_of_reach
returns-else-a c = rw (← c.abs-a.ensures, c.if-a.false)
