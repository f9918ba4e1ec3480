-- One case for each answer of the shift: the counts are handed over, and none is cut (`ran-handed`);
-- refused, zeros are (`refused-handed`). Assumes nothing.
use Rattle.sillfeather.proofs.Fit.{ran-handed, refused-handed}
use Rattle.sillfeather.proofs.sillfeather_shift.Goals as goal

pub returns-in-Ok : goal.returns-in-Ok
returns-in-Ok c = rw (c.narrow.ensures, c.counts.ensures) (ran-handed _ _ _ _ _ c.shift.ensures c.in-Ok.is)

pub returns-in-Err : goal.returns-in-Err
returns-in-Err c = rw c.code.ensures (refused-handed _ _ _ _ _ c.shift.ensures c.in-Err.is)
