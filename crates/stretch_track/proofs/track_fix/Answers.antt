-- Calls are replaced by what they ensure; the definition is left. Assumes nothing.
use Rattle.stretch_track.proofs.track_fix.Goals as goal

pub returns : goal.returns
returns c = (rw c.tracked-now.ensures at c.put_row.ensures, rw (c.row.ensures, c.tracked-now.ensures) at c.alike-met.ensures)
