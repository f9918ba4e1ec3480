use Prim.Native.Nat.{ℕ, ◌*◌}
use borrow.Author.Rules.{rules}
use native.Mathlib.Omega.{arith}
use mathlib.Core.Path.{◌≡◌, ap, ◌∙◌}
use lib.ListN.{length}
use Rattle.columns.proofs.Laws.{flat-length}
use Rattle.stretch.proofs.Track.{retracking_start, retracking-fix, retracking-fix-met, retracking-end}
use Rattle.stretch_track.proofs.track_until.Goals as goal

pub loop-i-init : goal.loop-i-init
loop-i-init c = (c.requires.0, c.requires.1, retracking_start _ _ _ _ (flat-length _ _ _ _ c.requires.0 ∙ ap (λ (n : ℕ). 4 * n) c.requires.1))

pub returns-then-track_fix : goal.returns-then-track_fix
returns-then-track_fix c = retracking-fix-met c.loop-i.invariant.2 c.loop-i-test.true c.moved-state.ensures c.track_fix.ensures.1 c.track_fix.ensures.0 c.if-track_fix.true

pub loop-i-preserved : goal.loop-i-preserved
loop-i-preserved c =
    ((search rules, search rules, search rules), search rules, retracking-fix c.loop-i.invariant.2 c.loop-i-test.true c.moved-state.ensures c.track_fix.ensures.1 c.track_fix.ensures.0 c.if-track_fix.false)

pub returns : goal.returns
returns c =
    let all : c.loop-i.i ≡ length c.args.t.now = omega (arith, c) in
    rw all at (retracking-end c.loop-i.invariant.2 c.loop-i-test.false)
