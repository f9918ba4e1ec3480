-- Calls are replaced by what they ensure; the definition is left. Assumes nothing.
use Rattle.helmert.specs.Units.{lengths_of}
use Rattle.helmert.proofs.lengths.Goals as goal

pub returns : goal.returns
unfolding lengths_of
returns c = rw (c.winner-3.ensures, c.winner-2.ensures, c.winner.ensures)
