-- Calls are replaced by what they ensure; the definition is left. Assumes nothing.
use Rattle.badekas.specs.Step.{shift_of}
use Rattle.badekas.proofs.prepare.Goals as goal

pub returns : goal.returns
unfolding shift_of
returns c = rw (c.about.ensures, c.prepare.ensures, c.helmert.ensures)
