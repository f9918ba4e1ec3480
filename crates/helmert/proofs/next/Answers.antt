-- One case for each way through the tests. Calls are replaced by what they ensure; the definition
-- is left. Assumes nothing.
use Rattle.helmert.specs.Modes.{next_of}
use Rattle.helmert.proofs.next.Goals as goal

pub returns-then-time-state : goal.returns-then-time-state
unfolding next_of
returns-then-time-state c = rw (c.grown-t.ensures, c.if-time-state.true)

pub returns : goal.returns
unfolding next_of
returns c = rw c.if-time-state.false
