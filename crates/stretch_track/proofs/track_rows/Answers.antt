use Prim.Native.Nat.{ℕ, ◌*◌}
use borrow.Author.Rules.{rules}
use native.Mathlib.Omega.{arith}
use mathlib.Core.Path.{ap, ◌∙◌}
use Rattle.columns.proofs.Laws.{flat-length}
use Rattle.stretch.proofs.Track.{tracking_start, tracking-fix, tracking-list, tracking-state}
use Rattle.stretch_track.proofs.track_rows.Goals as goal

pub loop-i-init : goal.loop-i-init
loop-i-init c = (c.requires.0, c.requires.1, tracking_start _ _ _ _ (flat-length _ _ _ _ c.requires.0 ∙ ap (λ (n : ℕ). 4 * n) c.requires.1))

pub loop-i-preserved : goal.loop-i-preserved
loop-i-preserved c =
    ((search rules, search rules, search rules), search rules, tracking-fix c.loop-i.invariant.2 c.loop-i-test.true c.moved-state.ensures (rw c.tracked.ensures at c.put_row.ensures))

pub returns : goal.returns
returns c = (tracking-list c.loop-i.invariant.2 c.loop-i-test.false, tracking-state c.loop-i.invariant.2 c.loop-i-test.false)
