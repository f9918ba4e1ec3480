-- Calls are replaced by what they ensure; the definition is left. Assumes nothing.
use Rattle.kept.proofs.step_in.Goals as goal

pub returns : goal.returns
returns c = (rw c.entry_at-entry.ensures at c.shift_of.ensures, rw c.entry_at-entry.ensures at c.reversed-reversed.ensures)
