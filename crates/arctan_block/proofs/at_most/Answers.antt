-- One case for each way through the tests. The test's outcome picks the definition's case.
-- Assumes nothing.
use Rattle.arctan_block.proofs.at_most.Goals as goal

pub returns-then-v-m : goal.returns-then-v-m
returns-then-v-m c = rw c.if-v-m.true

pub returns-else-v-m : goal.returns-else-v-m
returns-else-v-m c = rw c.if-v-m.false
