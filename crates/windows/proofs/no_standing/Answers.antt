-- Calls are replaced by what they ensure; the definition is left. Assumes nothing.
use Rattle.windows.proofs.no_standing.Goals as goal

pub returns : goal.returns
returns c = rw (c.none.ensures, c.no_state.ensures)
