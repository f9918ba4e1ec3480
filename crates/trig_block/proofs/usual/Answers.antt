-- One case for each way through the tests. Calls are replaced by what they ensure; the definition
-- is left. Assumes nothing.
use Rattle.trig_block.specs.Block.{usual_of}
use Rattle.trig_block.proofs.usual.Goals as goal

pub returns-then-x : goal.returns-then-x
unfolding usual_of
returns-then-x c = rw c.if-x.true

pub returns : goal.returns
unfolding usual_of
returns c = rw (c.abs.ensures, c.if-x.false)
