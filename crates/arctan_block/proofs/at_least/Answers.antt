-- One case for each way through the tests. The test's outcome picks the definition's case.
-- Assumes nothing.
use Rattle.arctan_block.proofs.at_least.Goals as goal

pub returns-then-m-v : goal.returns-then-m-v
returns-then-m-v c = rw c.if-m-v.true

pub returns-else-m-v : goal.returns-else-m-v
returns-else-m-v c = rw c.if-m-v.false
