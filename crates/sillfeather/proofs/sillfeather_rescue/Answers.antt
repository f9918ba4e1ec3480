-- One case for each answer of `rescue` (`done-mended`, `refused-mended`). Assumes nothing.
use Rattle.sillfeather.proofs.Mending.{done-mended, refused-mended}
use Rattle.sillfeather.proofs.sillfeather_rescue.Goals as goal

pub returns-in-Ok : goal.returns-in-Ok
returns-in-Ok c = rw c.long.ensures (done-mended _ _ _ c.rescue.ensures c.in-Ok.is)

pub returns-in-Err : goal.returns-in-Err
returns-in-Err c = rw c.code.ensures (refused-mended _ _ _ c.rescue.ensures c.in-Err.is)
