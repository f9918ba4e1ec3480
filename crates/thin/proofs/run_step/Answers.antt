use mathlib.Core.Path.{ap, ◌∙◌}
use Rattle.thin.specs.Tuples.{tuples_of, tuples_tally_of}
use mathlib.Core.List.{[]}
use Rattle.plans.specs.Lent.{lent_of}
use Rattle.plans.specs.Plans.{plan_pass_of, plan_start_of}
use Rattle.chain.proofs.Windows.{plan_start}
use Rattle.thin.proofs.Laws.{plan_pass, turn_is, walk_start, walk_again, walk_end}
use Rattle.thin.proofs.run_step.Goals as goal

pub loop-i-init : goal.loop-i-init
loop-i-init c = rw c.begin-at.ensures (walk_start _ _ _)

-- one turn takes the tuple at i and puts in its place what the plan makes of it
pub loop-i-preserved : goal.loop-i-preserved
loop-i-preserved c = walk_again c.loop-i-test.true (c.turn-r.ensures ∙ turn_is _ _ _ _ _ _) c.loop-i.invariant

-- at the end the plan's run is the step's
pub returns : goal.returns
returns c =
    let a = c.args in
    let v = a.velocities.now in
    let m = a.marks.now in
    let end = walk_end c.loop-i-test.false c.loop-i.invariant in
    let same = ap (plan_pass_of (lent_of v m [])) c.plan_of_step-plan.ensures ∙ plan_pass v m a.inverse a.step in
    let from_start = ap plan_start_of c.plan_of_step-plan.ensures ∙ plan_start a.inverse a.step in
    (end.0 ∙ (λ j. tuples_of (same j).turns 0 (from_start j) a.list.now), end.1 ∙ (λ j. tuples_tally_of (same j) 0 (from_start j) a.list.now))
