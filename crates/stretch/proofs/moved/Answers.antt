-- One case for each way through the test. Calls are replaced by what they ensure; the definition
-- is left. Assumes nothing.
use mathlib.Core.Path.{sym, ◌∙◌}
use Rattle.stretch.specs.Track.{moved_of}
use Rattle.stretch.proofs.moved.Goals as goal

pub returns-then-is_running : goal.returns-then-is_running
unfolding moved_of
returns-then-is_running c = rw (sym c.is_running.ensures ∙ c.if-is_running.true) c.next.ensures

pub returns : goal.returns
unfolding moved_of
returns c = rw (sym c.is_running.ensures ∙ c.if-is_running.false)
