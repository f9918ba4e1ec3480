-- One case for each way through the tests. The test's outcome picks the definition's case.
-- Assumes nothing.
use Rattle.helmert.proofs.angular_scale.Goals as goal

pub returns-then-uas : goal.returns-then-uas
returns-then-uas c = rw c.if-uas.true

pub returns-else-uas : goal.returns-else-uas
returns-else-uas c = rw c.if-uas.false
