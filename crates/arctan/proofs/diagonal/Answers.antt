-- One case for each way through the tests. The test's outcome picks the definition's case.
-- Assumes nothing.
use Rattle.arctan.specs.Arctan.{diagonal_of}
use Rattle.arctan.proofs.diagonal.Goals as goal

pub returns-then-left : goal.returns-then-left
unfolding diagonal_of
returns-then-left c = rw c.if-left.true

pub returns-else-left : goal.returns-else-left
unfolding diagonal_of
returns-else-left c = rw c.if-left.false
