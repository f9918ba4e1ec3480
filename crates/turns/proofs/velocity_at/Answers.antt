-- One case for each way through the tests. Each by `zero_over_zero`. Assumes nothing.
use borrow.Author.Tests.{lt-ltb, le-ltb}
use Rattle.floats.proofs.Nan.{zero_over_zero}
use Rattle.turns.specs.Turns.{velocity_at}
use Rattle.turns.proofs.velocity_at.Goals as goal

pub returns-then-k-velocities : goal.returns-then-k-velocities
unfolding velocity_at
returns-then-k-velocities c = rw (lt-ltb _ _ c.if-k-velocities.true)

pub returns : goal.returns
unfolding velocity_at
returns c = rw (le-ltb _ _ c.if-k-velocities.false, zero_over_zero)
