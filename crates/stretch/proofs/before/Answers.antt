-- One case for each way through the test: `before_start` and `before_kept`. Assumes nothing.
use mathlib.Core.Path.{sym, ap, ◌∙◌}
use Rattle.stretch.specs.Kept.{held_of}
use Rattle.stretch.proofs.Start.{before_start, before_kept}
use Rattle.stretch.proofs.before.Goals as goal

pub returns-then-index-is_running : goal.returns-then-index-is_running
returns-then-index-is_running g c =
    c.start.ensures ∙ sym (before_start _ _ _ (rw c.is_running.ensures at c.if-index-is_running.true))

pub returns : goal.returns
returns g c =
    c.held.ensures ∙ ap held_of c.row.ensures ∙ sym (before_kept _ _ _ (rw c.is_running.ensures at c.if-index-is_running.false))
