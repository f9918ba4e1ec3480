-- One case for each answer of the correction (`correct-done`, `correct-refused`). Assumes nothing.
use Rattle.reach_entries.proofs.Keeping.{correct-done, correct-refused}
use Rattle.reach_entries.proofs.sillfeather_correct_reach.Goals as goal

pub returns-in-Ok : goal.returns-in-Ok
returns-in-Ok c = correct-done _ _ _ _ _ (rw c.tuple_of-fix.ensures at c.correct_reach.ensures) c.in-Ok.is

pub returns-in-Err : goal.returns-in-Err
returns-in-Err c = rw c.code.ensures (correct-refused _ _ _ _ _ (rw c.tuple_of-fix.ensures at c.correct_reach.ensures) c.in-Err.is)
