-- One case for each answer of the shift: the tallies are handed over, and no number is cut
-- (`columns-ran-told`); refused, zeros are (`columns-refused-told`). Assumes nothing.
use Rattle.reach_entries.proofs.Fit.{columns-ran-told, columns-refused-told}
use Rattle.reach_entries.proofs.sillfeather_shift_columns.Goals as goal

pub returns-in-Ok : goal.returns-in-Ok
returns-in-Ok c =
    rw (c.narrow-in-Ok.ensures, c.mets.ensures, c.narrow.ensures, c.counts.ensures)
    (columns-ran-told _ _ _ _ _ c.shift_columns.ensures c.in-Ok.is)

pub returns-in-Err : goal.returns-in-Err
returns-in-Err c = rw c.code.ensures (columns-refused-told _ _ _ _ _ c.shift_columns.ensures c.in-Err.is)
