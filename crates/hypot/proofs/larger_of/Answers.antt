-- One case for each way through the tests. The test's outcome picks the definition's case.
-- Assumes nothing.
use Rattle.hypot.specs.Hypot.{larger}
use Rattle.hypot.proofs.larger_of.Goals as goal

pub returns-then-a-b : goal.returns-then-a-b
unfolding larger
returns-then-a-b c = rw c.if-a-b.true

pub returns-else-a-b : goal.returns-else-a-b
unfolding larger
returns-else-a-b c = rw c.if-a-b.false
