-- One case for each answer of the correction (`columns-done`, `columns-refused`). Assumes nothing.
use Rattle.reach_entries.proofs.Keeping.{columns-done, columns-refused}
use Rattle.reach_entries.proofs.sillfeather_correct_columns.Goals as goal

pub returns-in-Ok : goal.returns-in-Ok
returns-in-Ok c = columns-done _ _ _ _ _ (rw c.tuple_of-fix.ensures at c.correct.ensures) c.in-Ok.is

pub returns-in-Err : goal.returns-in-Err
returns-in-Err c = rw c.code.ensures (columns-refused _ _ _ _ _ (rw c.tuple_of-fix.ensures at c.correct.ensures) c.in-Err.is)
