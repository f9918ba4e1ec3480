-- One case for each way through the tests. Calls are replaced by what they ensure; the definition
-- is left. Assumes nothing.
use Rattle.helmert.specs.Apply.{forward_of}
use Rattle.helmert.proofs.forward.Goals as goal

pub returns-then-rotated : goal.returns-then-rotated
unfolding forward_of
returns-then-rotated c = rw (c.at_time.ensures, c.offset.ensures, c.rotate.ensures, c.position.ensures, c.if-rotated.true)

pub returns : goal.returns
unfolding forward_of
returns c = rw (c.at_time-2.ensures, c.offset-2.ensures, c.position-2.ensures, c.if-rotated.false)
