-- Calls are replaced by what they ensure; the step with the pivot for its translation, between a
-- difference and a sum, is the sequence as it is written. Assumes nothing.
use Rattle.helmert.specs.Apply.{offset_of, forward_of, forward_about_of}
use Rattle.helmert.proofs.forward_about.Goals as goal

pub returns : goal.returns
unfolding forward_about_of forward_of offset_of
returns c = rw (c.more.ensures, c.forward.ensures, c.less.ensures)
