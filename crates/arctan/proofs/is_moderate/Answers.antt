-- One case for each way through the tests. The test's outcome picks the definition's case.
-- Assumes nothing.
use Rattle.arctan.specs.Arctan.{moderate}
use Rattle.arctan.proofs.is_moderate.Goals as goal

pub returns-then-a : goal.returns-then-a
unfolding moderate
returns-then-a c = rw c.if-a.true

pub returns-else-a : goal.returns-else-a
unfolding moderate
returns-else-a c = rw c.if-a.false
