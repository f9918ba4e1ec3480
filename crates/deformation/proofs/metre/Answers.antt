-- One case for each way through the tests. The test's outcome picks the definition's case.
-- Assumes nothing.
use Rattle.deformation.proofs.metre.Goals as goal

pub returns-then-inverse : goal.returns-then-inverse
returns-then-inverse c = rw c.if-inverse.true

pub returns-else-inverse : goal.returns-else-inverse
returns-else-inverse c = rw c.if-inverse.false
