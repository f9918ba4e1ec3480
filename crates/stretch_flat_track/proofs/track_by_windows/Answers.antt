use native.Mathlib.Omega.{arith}
use Prim.Native.Nat.{◌+◌, ◌*◌, ◌/◌, ◌≤◌}
use mathlib.Core.Path.{◌≡◌, refl}
use lib.ListN.{length}
use Rattle.tuple.specs.declared.Tuple.{Tuple}
use Rattle.stretch.proofs.Track.{tracking_start, tracking-list}
use Rattle.stretch_flat_track.proofs.Windows.{column_length, tracking-window}
use Rattle.stretch_flat_track.proofs.track_by_windows.Goals as goal

pub loop-i-init : goal.loop-i-init
loop-i-init c =
    let k = column_length (λ (v : Tuple). v.t) c.args.list.now in
    (omega (arith, c.requires.0), c.requires.1, tracking_start _ _ _ _ (omega (arith, k, c.requires.0, c.requires.1)))

pub loop-i-preserved : goal.loop-i-preserved
loop-i-preserved c =
    let l = c.loop-i in
    let w = c.min-w.result in
    let made = c.track_part-state.ensures in
    let whole : w ≡ 64 = omega (arith, c.min-w.ensures, c) in
    let fits : 4 * (l.i + w) ≤ length c.args.list.now = omega (arith, l.invariant.0, c) in
    (l.invariant.0, omega arith, tracking-window c.args.list.now l.invariant.2 w (omega (arith, whole)) c.track_part-state.new.track fits (omega arith) made.0 made.1 refl (omega arith))

pub returns-2 : goal.returns-2
returns-2 c =
    let l = c.loop-i in
    let k = column_length (λ (v : Tuple). v.t) c.args.list.now in
    let w = c.min-w.result in
    let made = c.track_part-state.ensures in
    let last : l.i + w ≡ length c.args.list.now / 4 = omega (arith, c.min-w.ensures, c) in
    let fits : 4 * (l.i + w) ≤ length c.args.list.now = omega (arith, l.invariant.0, last) in
    tracking-list (tracking-window c.args.list.now l.invariant.2 w last c.track_part-state.new.track fits (omega arith) made.0 made.1 refl (omega arith)) (omega (arith, k))

pub returns : goal.returns
returns c =
    let l = c.loop-i in
    let k = column_length (λ (v : Tuple). v.t) c.args.list.now in
    tracking-list l.invariant.2 (omega (arith, k, l.invariant.0, c.loop-i-test.false))
