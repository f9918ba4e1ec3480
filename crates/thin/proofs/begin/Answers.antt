-- Calls are replaced by what they ensure; the definition is left. Assumes nothing.
use Rattle.thin.proofs.begin.Goals as goal

pub returns : goal.returns
returns c = rw (c.none.ensures, c.start.ensures)
