-- One case for each answer of `correct` (`done-corrected`, `refused-corrected`). Assumes nothing.
use Rattle.sillfeather.proofs.Keeping.{done-corrected, refused-corrected}
use Rattle.sillfeather.proofs.sillfeather_correct.Goals as goal

pub returns-in-Ok : goal.returns-in-Ok
returns-in-Ok c = done-corrected _ _ _ _ _ (rw c.tuple_of-fix.ensures at c.correct.ensures) c.in-Ok.is

pub returns-in-Err : goal.returns-in-Err
returns-in-Err c = rw c.code.ensures (refused-corrected _ _ _ _ _ (rw c.tuple_of-fix.ensures at c.correct.ensures) c.in-Err.is)
