-- One case for each answer of the run (`keep-done`, `keep-refused`). Assumes nothing.
use Rattle.reach_entries.proofs.Keeping.{keep-done, keep-refused}
use Rattle.reach_entries.proofs.sillfeather_keep_reach.Goals as goal

pub returns-in-Ok : goal.returns-in-Ok
returns-in-Ok c =
    let e = c.keep_reach.ensures in
    let told = keep-done _ _ _ e.0 c.in-Ok.is in
    (told.0, told.1, told.2, e.1)

pub returns-in-Err : goal.returns-in-Err
returns-in-Err c =
    let e = c.keep_reach.ensures in
    let told = keep-refused _ _ _ e.0 c.in-Err.is in
    (rw c.code.ensures told.0, told.1, told.2, e.1)
