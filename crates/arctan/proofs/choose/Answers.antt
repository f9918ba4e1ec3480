-- One case for each way through the tests. The test's outcome picks the definition's case.
-- Assumes nothing.
use Rattle.arctan.proofs.choose.Goals as goal

pub returns-then-first : goal.returns-then-first
returns-then-first c = rw c.if-first.true

pub returns-else-first : goal.returns-else-first
returns-else-first c = rw c.if-first.false
