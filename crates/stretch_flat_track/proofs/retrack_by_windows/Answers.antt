use native.Mathlib.Omega.{arith}
use Prim.Native.Nat.{◌+◌, ◌*◌, ◌/◌, ◌≤◌}
use mathlib.Core.Path.{◌≡◌, refl, ap}
use lib.ListN.{length}
use Rattle.tuple.specs.declared.Tuple.{Tuple}
use Rattle.stretch.specs.Track.{Retracked}
use Rattle.stretch.proofs.Track.{retracking_start, retracking-end}
use Rattle.stretch_flat_track.proofs.Windows.{column_length}
use Rattle.stretch_flat_track.proofs.Again.{retracking-window, retracking-window-met, window-few}
use Rattle.stretch_flat_track.proofs.retrack_by_windows.Goals as goal

pub loop-i-init : goal.loop-i-init
loop-i-init c =
    let k = column_length (λ (v : Tuple). v.t) c.args.list.now in
    (omega (arith, c.requires.0), c.requires.1, retracking_start _ _ _ _ (omega (arith, k, c.requires.0, c.requires.1)))

pub overflow_add-result : goal.overflow_add-result
overflow_add-result c =
    let l = c.loop-i in
    let w = c.min-w.result in
    let fits : 4 * (l.i + w) ≤ length c.args.list.now = omega (arith, l.invariant.0, c.min-w.ensures, c.loop-i-test.true) in
    let few = window-few c.args.list.now l.invariant.2 w fits c.retrack_part-again.new.track c.retrack_part-again.ensures refl in
    omega (arith, few, fits, c)

pub returns-then-again : goal.returns-then-again
returns-then-again c =
    let l = c.loop-i in
    let w = c.min-w.result in
    let list = c.args.list.now in
    let made = c.retrack_part-again.ensures in
    let p = c.retrack_part-again.new.track in
    let fits : 4 * (l.i + w) ≤ length list = omega (arith, l.invariant.0, c.min-w.ensures, c.loop-i-test.true) in
    let few = window-few list l.invariant.2 w fits p made refl in
    let done = retracking-window-met list l.invariant.2 w fits p made refl c.if-again.true in
    (ap (λ (d : Retracked). d.track) done, ap (λ (d : Retracked). d.count) done, omega (arith, few, fits))

pub loop-i-preserved : goal.loop-i-preserved
loop-i-preserved c =
    let l = c.loop-i in
    let w = c.min-w.result in
    let whole : w ≡ 4 = omega (arith, c.min-w.ensures, c) in
    let fits : 4 * (l.i + w) ≤ length c.args.list.now = omega (arith, l.invariant.0, c) in
    (l.invariant.0, omega arith, retracking-window c.args.list.now l.invariant.2 w fits c.retrack_part-again.new.track c.retrack_part-again.ensures refl (omega (arith, whole)) c.if-again.false)

pub returns-else-again : goal.returns-else-again
returns-else-again c =
    let l = c.loop-i in
    let list = c.args.list.now in
    let k = column_length (λ (v : Tuple). v.t) list in
    let w = c.min-w.result in
    let last : l.i + w ≡ length list / 4 = omega (arith, c.min-w.ensures, c) in
    let fits : 4 * (l.i + w) ≤ length list = omega (arith, l.invariant.0, last) in
    let now = retracking-window list l.invariant.2 w fits c.retrack_part-again.new.track c.retrack_part-again.ensures refl last c.if-again.false in
    let done = retracking-end now (omega (arith, k)) in
    (ap (λ (d : Retracked). d.track) done, ap (λ (d : Retracked). d.count) done, omega (arith, l.invariant.0))

pub returns : goal.returns
returns c =
    let l = c.loop-i in
    let k = column_length (λ (v : Tuple). v.t) c.args.list.now in
    let all : l.i ≡ length c.args.list.now / 4 = omega (arith, k, l.invariant.0, l.invariant.2.within, c.loop-i-test.false) in
    let done = rw all at (retracking-end l.invariant.2 (omega (arith, k, l.invariant.0, c.loop-i-test.false))) in
    (ap (λ (d : Retracked). d.track) done, ap (λ (d : Retracked). d.count) done, omega (arith, l.invariant.0))
