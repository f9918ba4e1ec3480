-- One case for each way through the tests. The test's outcome picks the definition's case.
-- Assumes nothing.
use Rattle.fields.specs.Fields.{angle_unit}
use Rattle.fields.proofs.angle_unit.Goals as goal

pub returns-then-uas : goal.returns-then-uas
unfolding angle_unit
returns-then-uas c = rw c.if-uas.true

pub returns-else-uas : goal.returns-else-uas
unfolding angle_unit
returns-else-uas c = rw c.if-uas.false
