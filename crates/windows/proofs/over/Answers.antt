use Prim.Native.Nat.{◌+◌}
use native.Mathlib.Omega.{arith}
use mathlib.Core.Path.{◌≡◌, sym, ap, ◌∙◌}
use Rattle.std.proofs.Math.Nat.{min-eq_left, min-eq_right}
use Rattle.plans.proofs.Arrays.{at_most_sixteen_lem}
use Rattle.step_windows.proofs.Parts.{room_rows, room_back, fits-list, last_left, part-taken, part_length, part-put}
use Rattle.plans.specs.Lent.{lent_in}
use Rattle.plans.specs.Windows.{gone_of}
use Rattle.windows.specs.Steps.{pass_in, passes_from, tallies_of, gone_over}
use Rattle.windows.proofs.Steps.{going_start, going-again, going_end, starts_few, passes_few}
use borrow.Author.Rules.{rules}
use Rattle.windows.proofs.over.Goals.{else-loop-i-test, then-loop-i-test+else-rows-i-gt128}
use Rattle.windows.proofs.over.Goals as goal

pub starts-standings-requires : goal.starts-standings-requires
starts-standings-requires c = rw c.at_most_sixteen-steps.ensures (at_most_sixteen_lem _)

pub loop-i-init : goal.loop-i-init
loop-i-init c = (omega arith, c.room-x.ensures, c.room-y.ensures, c.room-z.ensures, c.room-t.ensures, rw c.at_most_sixteen-steps.ensures (at_most_sixteen_lem _), going_start _ _ _ _ (search rules) (rw c.starts-standings.ensures (starts_few _ _)), search rules)

pub slice_bounds-window-end-in-loop-i : goal.slice_bounds-window-end-in-loop-i
slice_bounds-window-end-in-loop-i c = let l = c.loop-i in sym (room_rows l.x c.rows_of-m.result l.invariant.1 c.rows_of-m.ensures.1)

pub slice_bounds-window-end-in-loop-i-2 : goal.slice_bounds-window-end-in-loop-i-2
slice_bounds-window-end-in-loop-i-2 c = let l = c.loop-i in sym (room_rows l.y c.rows_of-m.result l.invariant.2 c.rows_of-m.ensures.1)

pub slice_bounds-window-end-in-loop-i-3 : goal.slice_bounds-window-end-in-loop-i-3
slice_bounds-window-end-in-loop-i-3 c = let l = c.loop-i in sym (room_rows l.z c.rows_of-m.result l.invariant.3 c.rows_of-m.ensures.1)

pub slice_bounds-window-end-in-loop-i-4 : goal.slice_bounds-window-end-in-loop-i-4
slice_bounds-window-end-in-loop-i-4 c = let l = c.loop-i in sym (room_rows l.t c.rows_of-m.result l.invariant.4 c.rows_of-m.ensures.1)

pub window-requires : goal.window-requires
window-requires c =
    let l = c.loop-i in
    let r = c.rows_of-m.ensures in
    let m = c.rows_of-m.result in
    let more = c.loop-i-test.true in
    let k = part_length l.list l.i m (fits-list l.i m l.invariant.0 l.invariant.6.long r.0 more) in
    let x = room_rows l.x m l.invariant.1 r.1 in
    let y = room_rows l.y m l.invariant.2 r.1 in
    let z = room_rows l.z m l.invariant.3 r.1 in
    let t = room_rows l.t m l.invariant.4 r.1 in
    (l.invariant.5, (y ∙ sym x, z ∙ sym x, t ∙ sym x), omega (arith, x, k), omega (arith, x, l.invariant.0, l.invariant.7, r.0, more), l.invariant.6.few)

pub loop-i-smaller : goal.loop-i-smaller
loop-i-smaller c = omega (arith, c.loop-i-test.true)

pub loop-i-preserved : goal.loop-i-preserved
loop-i-preserved c =
    let l = c.loop-i in
    let r = c.rows_of-m.ensures in
    let m = c.rows_of-m.result in
    let e = c.window.ensures in
    let w = c.window.new in
    let more = c.loop-i-test.true in
    let fits = fits-list l.i m l.invariant.0 l.invariant.6.long r.0 more in
    let k = part-taken l.list l.i m in
    let next : l.i + 128 ≡ l.i + m = omega (arith, r.3 ∙ min-eq_right (omega arith)) in (
      omega arith,
      room_back l.x w.x m l.invariant.1 (omega arith),
      room_back l.y w.y m l.invariant.2 (omega arith),
      room_back l.z w.z m l.invariant.3 (omega arith),
      room_back l.t w.t m l.invariant.4 (omega arith),
      l.invariant.5,
      rw next (going-again m (passes_few _ _ l.invariant.5) fits (part-put l.list l.i m _) (rw k at e.0) (rw k at e.1) l.invariant.6),
      l.invariant.7,
    )

-- before any window, or behind the last, which has the rows that are left
pub returns : goal.returns
unfolding gone_over
returns c =
    let l = c.loop-i in
    let a = c.args in
    let gone = gone_of a.inverse 0 (passes_from (pass_in (lent_in a.lent) a.plans.now) c.at_most_sixteen-steps.result 0) c.starts-standings.result a.list.now in
    let done : (c.loop-i-test.list ≡ gone.list) × (c.loop-i-test.standings ≡ gone.standings) = elim c.loop-i-test.branch [
      | else-loop-i-test w ↦
          let e = going_end (last_left l.i l.invariant.6.long w.loop-i-test.false) l.invariant.6 in
          (w.list-is ∙ e.0, w.standings-is ∙ e.1)
      | then-loop-i-test+else-rows-i-gt128 w ↦
          let r = w.rows_of-m.ensures in
          let m = w.rows_of-m.result in
          let e = w.window.ensures in
          let more = w.loop-i-test.true in
          let fits = fits-list l.i m l.invariant.0 l.invariant.6.long r.0 more in
          let k = part-taken l.list l.i m in
          let now = going-again m (passes_few _ _ l.invariant.5) fits (part-put l.list l.i m _) (rw k at e.0) (rw k at e.1) l.invariant.6 in
          let rest = r.3 ∙ min-eq_left (omega arith) in
          let g = going_end (last_left (l.i + m) now.long (omega (arith, rest, more))) now in
          (w.list-is ∙ g.0, w.standings-is ∙ g.1)
    ] in
    let st = c.starts-standings.ensures in
    let most = c.at_most_sixteen-steps.ensures in
    (rw (st, most) at done.0, c.tallies_of.ensures ∙ ap tallies_of (rw (st, most) at done.1))
