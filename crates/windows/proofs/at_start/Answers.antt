-- Calls are replaced by what they ensure; the definition is left. Assumes nothing.
use Rattle.windows.proofs.at_start.Goals as goal

pub returns : goal.returns
returns c = rw (c.none.ensures, c.start.ensures)
