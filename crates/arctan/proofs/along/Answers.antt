-- One case for each way through the tests. The test's outcome picks the definition's case.
-- Assumes nothing.
use Rattle.arctan.specs.Arctan.{along_of}
use Rattle.arctan.proofs.along.Goals as goal

pub returns-then-left : goal.returns-then-left
unfolding along_of
returns-then-left c = rw c.if-left.true

pub returns-else-left : goal.returns-else-left
unfolding along_of
returns-else-left c = rw c.if-left.false
