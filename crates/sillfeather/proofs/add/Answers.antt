-- One case for each answer of `add` (`done-made`, `refused-made`). Assumes nothing.
use Rattle.sillfeather.proofs.Adding.{done-made, refused-made}
use Rattle.sillfeather.proofs.add.Goals as goal

pub returns-in-Ok : goal.returns-in-Ok
returns-in-Ok c = done-made _ _ _ _ c.add.ensures c.in-Ok.is

pub returns-in-Err : goal.returns-in-Err
returns-in-Err c = rw c.code.ensures (refused-made _ _ _ _ c.add.ensures c.in-Err.is)
