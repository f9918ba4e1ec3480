-- One case for each way through the tests. Assumes nothing.
use Rattle.helmert.specs.Modes.{mode_of}
use Rattle.helmert.proofs.Shift.mode.Goals as goal

pub returns-then-is_running : goal.returns-then-is_running
unfolding mode_of
returns-then-is_running c = rw (← c.is_running.ensures, c.if-is_running.true)

pub returns-then-is_own_epoch : goal.returns-then-is_own_epoch
unfolding mode_of
returns-then-is_own_epoch c =
    rw (← c.is_running.ensures, c.if-is_running.false, ← c.is_own_epoch.ensures, c.if-is_own_epoch.true)

pub returns-else-is_own_epoch : goal.returns-else-is_own_epoch
unfolding mode_of
returns-else-is_own_epoch c =
    rw (← c.is_running.ensures, c.if-is_running.false, ← c.is_own_epoch.ensures, c.if-is_own_epoch.false)
