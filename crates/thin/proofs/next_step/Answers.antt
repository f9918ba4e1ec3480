-- Calls are replaced by what they ensure; the definition is left. Assumes nothing.
use Rattle.thin.specs.Sheets.{todo_of}
use Rattle.thin.proofs.next_step.Goals as goal

pub returns : goal.returns
unfolding todo_of
returns c = rw (c.reversed.ensures, c.entry_at-entry.ensures, c.place_of-place.ensures)
