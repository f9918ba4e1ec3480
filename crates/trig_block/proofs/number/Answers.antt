-- One case for each way through the tests. The test's outcome picks the definition's case.
-- Assumes nothing.
use Rattle.trig_block.specs.Block.{number_of}
use Rattle.trig_block.proofs.number.Goals as goal

pub returns-then-x : goal.returns-then-x
unfolding number_of
returns-then-x c = rw c.if-x.true

pub returns-else-x : goal.returns-else-x
unfolding number_of
returns-else-x c = rw c.if-x.false
