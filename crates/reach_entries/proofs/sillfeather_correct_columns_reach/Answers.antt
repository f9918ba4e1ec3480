-- One case for each answer of the correction (`columns-reach-done`, `columns-reach-refused`). Assumes nothing.
use Rattle.reach_entries.proofs.Keeping.{columns-reach-done, columns-reach-refused}
use Rattle.reach_entries.proofs.sillfeather_correct_columns_reach.Goals as goal

pub returns-in-Ok : goal.returns-in-Ok
returns-in-Ok c = columns-reach-done _ _ _ _ _ (rw c.tuple_of-fix.ensures at c.correct_reach.ensures) c.in-Ok.is

pub returns-in-Err : goal.returns-in-Err
returns-in-Err c = rw c.code.ensures (columns-reach-refused _ _ _ _ _ (rw c.tuple_of-fix.ensures at c.correct_reach.ensures) c.in-Err.is)
