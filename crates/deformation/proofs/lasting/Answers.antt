-- One case for each way through the tests. The test's outcome picks the definition's case.
-- Assumes nothing.
use Rattle.deformation.proofs.lasting.Goals as goal

pub returns-then-given : goal.returns-then-given
returns-then-given c = rw c.if-given.true

pub returns-else-given : goal.returns-else-given
returns-else-given c = rw c.if-given.false
