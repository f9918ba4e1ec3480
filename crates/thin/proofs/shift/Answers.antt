-- A refused call hands on the refusal and leaves the list (`refused-by` of the chain); one that is not
-- runs as many steps as the sheet has (`all_steps`), and what the loop has made in the end is the flat
-- entry's outcome (`going_end`), whose answer hands out the tallies. Assumes nothing.
use native.Mathlib.Omega.{arith}
use mathlib.Core.Path.{◌≡◌, refl, sym, ap, ◌∙◌}
use lib.ListN.{length}
use Rattle.sheet.specs.Layout.{step_count_of, entry_at}
use Rattle.sheet.proofs.Unless.{accepts, passed, failed, hands_on}
use Rattle.chain.specs.Chain.{entries_of}
use Rattle.chain.specs.Rules.{Outcome, handed_out, shift_of}
use Rattle.chain.proofs.Outcome.{told_refused, refused-by}
use Rattle.thin.specs.Sheets.{thin_refusal_of, steps_of}
use Rattle.thin.proofs.Laws.{answering, all_steps, refusal_is_flat, place_below, todo_place, going_few, going_start, going-again, going_end}
use Rattle.thin.proofs.shift.Goals as goal

pub returns-in_err-judge : goal.returns-in_err-judge
unfolding shift_of
returns-in_err-judge c =
    let a = c.args in
    let o = c.judge.ensures in
    let err = c.in_err-judge.was in
    let none = failed _ _ o err in
    let es = entries_of (entry_at a.s.now) (step_count_of a.s.now) 0 in
    told_refused _ (refused-by _ _ a.inverse es _ _ _ _ (sym (refusal_is_flat a.s.now a.list.now a.velocities.now a.marks.now)) none) none (hands_on _ _ o err c.from_residual.ensures.1)

pub loop-i-init : goal.loop-i-init
loop-i-init c =
    let a = c.args in
    let refusal = thin_refusal_of a.s.now (length a.list.now) a.velocities.now a.marks.now in
    let steps = all_steps a.s.now refusal _ (passed _ _ c.judge.ensures c.in_ok-judge.was) c.step_count-n.ensures.0 in
    let few = going_few a.s.now a.velocities.now a.marks.now a.list.now refusal _ refl steps in
    going_start a.inverse a.s.now a.velocities.now a.marks.now a.list.now refusal _ few _ (rw c.none-tallies.ensures)

-- a step's place is below the number of steps, of which there are at most sixteen
pub bounds-tallies-e : goal.bounds-tallies-e
bounds-tallies-e c =
    let a = c.args in
    let refusal = thin_refusal_of a.s.now (length a.list.now) a.velocities.now a.marks.now in
    let steps = all_steps a.s.now refusal _ (passed _ _ c.judge.ensures c.in_ok-judge.was) c.step_count-n.ensures.0 in
    let few = going_few a.s.now a.velocities.now a.marks.now a.list.now refusal _ refl steps in
    let below = place_below a.inverse c.step_count-n.result c.loop-i.i c.loop-i-test.true in
    let place = todo_place a.inverse a.s.now c.step_count-n.result c.loop-i.i _ c.next_step-e.ensures in
    omega (arith, few, below, place)

pub offset_bounds-tallies-e : goal.offset_bounds-tallies-e
offset_bounds-tallies-e c =
    let a = c.args in
    let refusal = thin_refusal_of a.s.now (length a.list.now) a.velocities.now a.marks.now in
    let steps = all_steps a.s.now refusal _ (passed _ _ c.judge.ensures c.in_ok-judge.was) c.step_count-n.ensures.0 in
    let few = going_few a.s.now a.velocities.now a.marks.now a.list.now refusal _ refl steps in
    let below = place_below a.inverse c.step_count-n.result c.loop-i.i c.loop-i-test.true in
    let place = todo_place a.inverse a.s.now c.step_count-n.result c.loop-i.i _ c.next_step-e.ensures in
    omega (arith, few, below, place)

pub loop-i-preserved : goal.loop-i-preserved
loop-i-preserved c =
    let a = c.args in
    let refusal = thin_refusal_of a.s.now (length a.list.now) a.velocities.now a.marks.now in
    let steps = all_steps a.s.now refusal _ (passed _ _ c.judge.ensures c.in_ok-judge.was) c.step_count-n.ensures.0 in
    let few = going_few a.s.now a.velocities.now a.marks.now a.list.now refusal _ refl steps in
    going-again
    a.inverse
    a.s.now
    a.velocities.now
    a.marks.now
    a.list.now
    refusal
    _
    few
    c.loop-i.i
    c.loop-i.list
    c.run_step.new.list
    (answering refusal c.loop-i.tallies)
    _
    _
    _
    c.loop-i-test.true
    c.next_step-e.ensures
    (omega arith)
    c.run_step.ensures
    refl
    c.loop-i.invariant

pub shape_of-list : goal.shape_of-list
shape_of-list c = c.loop-i.invariant.long

pub returns : goal.returns
returns c =
    let a = c.args in
    let refusal = thin_refusal_of a.s.now (length a.list.now) a.velocities.now a.marks.now in
    let none = passed _ _ c.judge.ensures c.in_ok-judge.was in
    let steps = all_steps a.s.now refusal _ none c.step_count-n.ensures.0 in
    let end = going_end a.inverse a.s.now a.velocities.now a.marks.now a.list.now refusal _ refl steps c.loop-i.i c.loop-i.list (answering refusal c.loop-i.tallies) c.loop-i-test.false c.loop-i.invariant in
    (sym (accepts refusal c.loop-i.tallies none) ∙ ap (λ (o : Outcome). handed_out o.answer) end, ap (λ (o : Outcome). o.list) end)
