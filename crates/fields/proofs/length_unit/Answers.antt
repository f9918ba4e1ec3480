-- One case for each way through the tests. The test's outcome picks the definition's case.
-- Assumes nothing.
use Rattle.fields.specs.Fields.{length_unit}
use Rattle.fields.proofs.length_unit.Goals as goal

pub returns-then-mm : goal.returns-then-mm
unfolding length_unit
returns-then-mm c = rw c.if-mm.true

pub returns-else-mm : goal.returns-else-mm
unfolding length_unit
returns-else-mm c = rw c.if-mm.false
