-- Refused, the report is not written (`told-refused`); done, it gets the new numbers (`told-done`).
-- Assumes nothing.
use Rattle.closure_entries.proofs.Telling.{clear, told-refused, told-done}
use Rattle.closure_entries.proofs.sillfeather_closure.Goals as goal

pub returns-in-Ok : goal.returns-in-Ok
returns-in-Ok c = rw c.numbers.ensures (told-done _ _ (rw c.of_numbers-before.ensures at c.closure.ensures) (clear _ _ _ _ _ _ _) c.in-Ok.is)

pub returns-in-Err : goal.returns-in-Err
returns-in-Err c = rw c.code.ensures (told-refused _ _ (rw c.of_numbers-before.ensures at c.closure.ensures) c.in-Err.is)
