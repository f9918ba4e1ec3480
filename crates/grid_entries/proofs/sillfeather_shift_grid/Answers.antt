-- One case for each answer of the shift: the tallies are handed over, and no number is cut
-- (`ran-told`); refused, zeros are (`refused-told`). Assumes nothing.
use Rattle.grid_entries.proofs.Fit.{ran-told, refused-told}
use Rattle.grid_entries.proofs.sillfeather_shift_grid.Goals as goal

pub returns-in-Ok : goal.returns-in-Ok
returns-in-Ok c =
    rw (c.narrow-in-Ok.ensures, c.mets.ensures, c.narrow.ensures, c.counts.ensures)
    (ran-told _ _ _ _ _ _ c.shift_grid.ensures c.in-Ok.is)

pub returns-in-Err : goal.returns-in-Err
returns-in-Err c = rw c.code.ensures (refused-told _ _ _ _ _ _ c.shift_grid.ensures c.in-Err.is)
