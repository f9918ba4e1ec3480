use Prim.Native.Nat.{◌+◌, ◌*◌, ◌-◌}
use native.Mathlib.Omega.{arith}
use mathlib.Core.Path.{◌≡◌, refl, sym, ◌∙◌}
use Rattle.std.proofs.Math.Nat.{min-eq_left, min-eq_right}
use borrow.Rule.Slice.PartMut.{put_mid}
use lib.ListN.{length}
use Rattle.columns.proofs.Passed.{passed_none, passed_on}
use Rattle.plans.specs.Plans.{plan_turns_of, plan_reach_of, plan_pass_of}
use Rattle.step_windows.proofs.Parts.{room_rows, room_back, fits-list, last_left, part-taken, part_length, part-put, passed-window, passed-met, part-few, passed-list, passed-count}
use Rattle.plans.specs.Lent.{lent_in}
use borrow.Author.Rules.{rules}
use Rattle.step_windows.proofs.over.Goals as goal

pub loop-i-init : goal.loop-i-init
loop-i-init c = (omega arith, c.room-x.ensures, c.room-y.ensures, c.room-z.ensures, c.room-t.ensures, refl, passed_none _ _ _ _, search rules, passed_none _ _ _ _)

pub slice_bounds-window-end-in-loop-i : goal.slice_bounds-window-end-in-loop-i
slice_bounds-window-end-in-loop-i c = let l = c.loop-i in sym (room_rows l.x c.rows_of-m.result l.invariant.1 c.rows_of-m.ensures.1)

pub slice_bounds-window-end-in-loop-i-2 : goal.slice_bounds-window-end-in-loop-i-2
slice_bounds-window-end-in-loop-i-2 c = let l = c.loop-i in sym (room_rows l.y c.rows_of-m.result l.invariant.2 c.rows_of-m.ensures.1)

pub slice_bounds-window-end-in-loop-i-3 : goal.slice_bounds-window-end-in-loop-i-3
slice_bounds-window-end-in-loop-i-3 c = let l = c.loop-i in sym (room_rows l.z c.rows_of-m.result l.invariant.3 c.rows_of-m.ensures.1)

pub slice_bounds-window-end-in-loop-i-4 : goal.slice_bounds-window-end-in-loop-i-4
slice_bounds-window-end-in-loop-i-4 c = let l = c.loop-i in sym (room_rows l.t c.rows_of-m.result l.invariant.4 c.rows_of-m.ensures.1)

pub window-part-requires : goal.window-part-requires
window-part-requires c =
    let l = c.loop-i in
    let r = c.rows_of-m.ensures in
    let m = c.rows_of-m.result in
    let k = part_length l.list l.i m (fits-list l.i m l.invariant.0 l.invariant.5 r.0 c.loop-i-test.true) in
    let x = room_rows l.x m l.invariant.1 r.1 in
    let y = room_rows l.y m l.invariant.2 r.1 in
    let z = room_rows l.z m l.invariant.3 r.1 in
    let t = room_rows l.t m l.invariant.4 r.1 in
    ((y ∙ sym x, z ∙ sym x, t ∙ sym x), omega (arith, x, k), omega (arith, x, l.invariant.0, l.invariant.7, r.0, c.loop-i-test.true))

pub overflow_add-count : goal.overflow_add-count
overflow_add-count c =
    let l = c.loop-i in
    let r = c.rows_of-m.ensures in
    let m = c.rows_of-m.result in
    let e = c.window-part.ensures in
    let more = c.loop-i-test.true in
    let fits = fits-list l.i m l.invariant.0 l.invariant.5 r.0 more in
    search (rules, l.invariant.0, l.invariant.7, l.invariant.6.few, part-few (plan_turns_of (lent_in c.args.lent) c.args.plan) l.i l.state l.list l.i m fits e.2, r.0, more)

pub overflow_add-met : goal.overflow_add-met
overflow_add-met c =
    let l = c.loop-i in
    let r = c.rows_of-m.ensures in
    let m = c.rows_of-m.result in
    let e = c.window-part.ensures in
    let more = c.loop-i-test.true in
    let fits = fits-list l.i m l.invariant.0 l.invariant.5 r.0 more in
    search (rules, l.invariant.0, l.invariant.7, l.invariant.8.few, part-few (plan_reach_of (lent_in c.args.lent) c.args.plan) l.i l.state l.list l.i m fits e.3, r.0, more)

pub loop-i-smaller : goal.loop-i-smaller
loop-i-smaller c = omega (arith, c.loop-i-test.true)

pub loop-i-preserved : goal.loop-i-preserved
loop-i-preserved c =
    let l = c.loop-i in
    let r = c.rows_of-m.ensures in
    let m = c.rows_of-m.result in
    let e = c.window-part.ensures in
    let more = c.loop-i-test.true in
    let fits = fits-list l.i m l.invariant.0 l.invariant.5 r.0 more in
    let a = c.args in
    let k = part-taken l.list l.i m in
    let next : l.i + 128 ≡ l.i + m = omega (arith, r.3 ∙ min-eq_right (omega arith)) in
    let w = c.window-part.new in (
      omega arith,
      room_back l.x w.x m l.invariant.1 (omega arith),
      room_back l.y w.y m l.invariant.2 (omega arith),
      room_back l.z w.z m l.invariant.3 (omega arith),
      room_back l.t w.t m l.invariant.4 (omega arith),
      search (rules, l.invariant.5),
      rw next (passed_on l.invariant.6 (passed-window m fits (part-put l.list l.i m _) (rw k at e.0) (rw k at e.1) (rw k at e.2))),
      l.invariant.7,
      rw next (passed_on l.invariant.8 (passed-met (plan_pass_of (lent_in a.lent) a.plan) m fits (part-put l.list l.i m _) (rw k at e.0) (rw k at e.1) (rw k at e.3))),
    )

pub returns : goal.returns
returns c =
    let l = c.loop-i in
    let st = c.start-state.ensures in
    let end = last_left l.i l.invariant.5 c.loop-i-test.false in
    let counted = passed-count l.i end l.invariant.6 in
    let met = passed-count l.i end l.invariant.8 in
    (rw st at (passed-list l.i end l.invariant.6), rw (← st) (λ j. record { count = counted j; met = met j }))

-- behind the last window, which has the rows that are left
pub returns-2 : goal.returns-2
returns-2 c =
    let l = c.loop-i in
    let r = c.rows_of-m.ensures in
    let m = c.rows_of-m.result in
    let e = c.window-part.ensures in
    let more = c.loop-i-test.true in
    let fits = fits-list l.i m l.invariant.0 l.invariant.5 r.0 more in
    let a = c.args in
    let k = part-taken l.list l.i m in
    let now = passed_on l.invariant.6 (passed-window m fits (part-put l.list l.i m _) (rw k at e.0) (rw k at e.1) (rw k at e.2)) in
    let met-now = passed_on l.invariant.8 (passed-met (plan_pass_of (lent_in a.lent) a.plan) m fits (part-put l.list l.i m _) (rw k at e.0) (rw k at e.1) (rw k at e.3)) in
    let rest = r.3 ∙ min-eq_left (omega arith) in
    let st = c.start-state.ensures in
    let list = put_mid (4 * l.i) (4 * (l.i + m) - 4 * l.i) l.list c.window-part.new.list in
    let end = last_left {n = length list} {n₀ = length a.list.now} (l.i + m) (search (rules, l.invariant.5)) (omega (arith, rest, more)) in
    let counted = passed-count (l.i + m) end now in
    let met = passed-count (l.i + m) end met-now in
    (rw st at (passed-list (l.i + m) end now), rw (← st) (λ j. record { count = counted j; met = met j }))
