-- Calls are replaced by what they ensure; the definition is left. Assumes nothing.
use Rattle.kept.proofs.no_shift.Goals as goal

pub returns : goal.returns
returns c = rw (c.prepare.ensures, c.zeros.ensures)
