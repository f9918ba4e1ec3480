-- One case for each way through the tests. The test's outcome picks the definition's case.
-- Assumes nothing.
use Rattle.arctan.specs.Arctan.{octant_index_of}
use Rattle.arctan.proofs.octant_index.Goals as goal

pub returns-then-steep : goal.returns-then-steep
unfolding octant_index_of
returns-then-steep c = rw (c.if-left.true, c.if-steep.true)

pub returns-else-steep : goal.returns-else-steep
unfolding octant_index_of
returns-else-steep c = rw (c.if-left.true, c.if-steep.false)

pub returns-then-steep-2 : goal.returns-then-steep-2
unfolding octant_index_of
returns-then-steep-2 c = rw (c.if-left.false, c.if-steep-2.true)

pub returns-else-steep-2 : goal.returns-else-steep-2
unfolding octant_index_of
returns-else-steep-2 c = rw (c.if-left.false, c.if-steep-2.false)
