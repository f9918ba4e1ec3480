-- One case for each way through the tests. Calls are replaced by what they ensure; the definition
-- is left. Assumes nothing.
use Rattle.arctan_block.specs.Block.{quick_of}
use Rattle.arctan_block.proofs.quick.Goals as goal

pub returns-then-y : goal.returns-then-y
unfolding quick_of
returns-then-y c = rw (c.at_least-r.ensures, c.at_most.ensures, c.cut_angle.ensures, c.if-y.true)

pub returns-else-y : goal.returns-else-y
unfolding quick_of
returns-else-y c = rw (c.at_least-r.ensures, c.at_most.ensures, c.cut_angle.ensures, c.if-y.false)
