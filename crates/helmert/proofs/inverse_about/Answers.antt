-- Calls are replaced by what they ensure; the step with the pivot for its translation, between a
-- difference and a sum, is the sequence as it is written. Assumes nothing.
use Rattle.helmert.specs.Apply.{deoffset_of, inverse_of, inverse_about_of}
use Rattle.helmert.proofs.inverse_about.Goals as goal

pub returns : goal.returns
unfolding inverse_about_of inverse_of deoffset_of
returns c = rw (c.more.ensures, c.inverse.ensures, c.less.ensures)
