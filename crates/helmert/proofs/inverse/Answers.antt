-- One case for each way through the tests. Calls are replaced by what they ensure; the definition
-- is left. Assumes nothing.
use Rattle.helmert.specs.Apply.{inverse_of}
use Rattle.helmert.proofs.inverse.Goals as goal

pub returns-then-rotated : goal.returns-then-rotated
unfolding inverse_of
returns-then-rotated c = rw (c.at_time.ensures, c.rotate_back.ensures, c.if-rotated.true, c.deoffset-u.ensures, c.position.ensures)

pub returns : goal.returns
unfolding inverse_of
returns c = rw (c.at_time-2.ensures, c.if-rotated.false, c.deoffset-u.ensures, c.position.ensures)
