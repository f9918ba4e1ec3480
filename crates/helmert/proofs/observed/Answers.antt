-- Calls are replaced by what they ensure; the definition is left. Assumes nothing.
use Rattle.helmert.specs.Modes.{observed_of}
use Rattle.helmert.proofs.observed.Goals as goal

pub returns : goal.returns
unfolding observed_of
returns c = rw (c.moved-r.ensures, c.moved-t.ensures)
