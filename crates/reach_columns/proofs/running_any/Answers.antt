use borrow.Author.Rules.{rules}
use Prim.Native.Nat.{◌*◌, ◌<◌}
use native.Mathlib.Omega.{arith}
use mathlib.Core.Path.{◌≡◌, sym, ◌∙◌, subst}
use lib.ListN.{length}
use lib.Ieee.{Float}
use Rattle.blocks.specs.Each.{at}
use Rattle.lists.specs.Flat.{tuple_at}
use Rattle.helmert.proofs.Laws.{state_in_running}
use Rattle.columns.specs.Columns.{flat_of}
use Rattle.columns.proofs.Laws.{flat-length, room, row-time}
use Rattle.reach.proofs.Modes.{Seen, seen-anew, seen-again, running_met}
use Rattle.reach_columns.proofs.Along.{along_start, along_again, along_end}
use Rattle.reach_columns.proofs.running_any.Goals as goal
use Rattle.reach_columns.proofs.running_any.Goals.{then-time-state, else-time-state}

pub loop-i-init : goal.loop-i-init
loop-i-init c = (along_start _ _ _, c.rotation_at_out-met.ensures, omega arith)

pub overflow_add-n : goal.overflow_add-n
overflow_add-n c = search (rules, c.loop-i.invariant.0.few)

pub loop-i-preserved : goal.loop-i-preserved
loop-i-preserved c =
    let a = c.args in
    let p = c.requires in
    let l = c.loop-i in
    let here : l.i < length a.x.now = omega (arith, p.0.2, c.loop-i-test.true) in
    let flat = flat_of a.x.now a.y.now a.z.now a.t.now in
    let v = tuple_at flat (4 * l.i) in
    let same : at a.t.now l.i ≡ v.t = sym (row-time a.x.now a.y.now a.z.now a.t.now p.0 l.i here) in
    let seen : Seen a.shift l.state (at a.t.now l.i) c.if-time-state.state c.if-time-state.met =
    elim c.if-time-state.branch [
      | then-time-state w ↦ seen-anew a.shift l.state _ w.if-time-state.true (w.state-is ∙ w.next-state.ensures) (w.met-is ∙ w.rotation_at_out-met-then-time-state.ensures)
      | else-time-state w ↦ seen-again a.shift l.state _ w.if-time-state.false w.state-is w.met-is l.invariant.1
    ] in
    let by_row = subst (λ (time : Float). Seen a.shift l.state time c.if-time-state.state c.if-time-state.met) same seen in
    let moved = by_row.next ∙ sym (state_in_running a.shift a.inverse l.state v p.1) in
    let met = running_met a.shift l.state v p.1 p.2 p.3 by_row in
    (rw moved (along_again l.i (room a.x.now a.y.now a.z.now a.t.now p.0 l.i here) met c.one_if-n.ensures.0 l.invariant.0), seen.held, search rules)

pub returns : goal.returns
returns c =
    let a = c.args in
    along_end c.loop-i.i (rw (flat-length a.x.now a.y.now a.z.now a.t.now c.requires.0) (omega (arith, c.requires.0.2, c.loop-i-test.false))) c.loop-i.invariant.0
