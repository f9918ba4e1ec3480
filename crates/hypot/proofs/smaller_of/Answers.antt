-- One case for each way through the tests. The test's outcome picks the definition's case.
-- Assumes nothing.
use Rattle.hypot.specs.Hypot.{smaller}
use Rattle.hypot.proofs.smaller_of.Goals as goal

pub returns-then-a-b : goal.returns-then-a-b
unfolding smaller
returns-then-a-b c = rw c.if-a-b.true

pub returns-else-a-b : goal.returns-else-a-b
unfolding smaller
returns-else-a-b c = rw c.if-a-b.false
