-- Calls are replaced by what they ensure; the definition is left. Assumes nothing.
use Rattle.helmert.specs.Units.{angles_of}
use Rattle.helmert.proofs.angles.Goals as goal

pub returns : goal.returns
unfolding angles_of
returns c = rw (c.winner-3.ensures, c.winner-2.ensures, c.winner.ensures)
