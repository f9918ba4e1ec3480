-- Calls are replaced by what they ensure, and the plan by its step (`plan-list`,
-- `plan-tally`).
-- Assumes nothing.
use mathlib.Core.Path.{◌∙◌}
use Rattle.chain_record.proofs.Plans.{plan-list, plan-tally}
use Rattle.chain_record.proofs.run_step.Goals as goal

pub returns : goal.returns
returns c =
    let there = c.plan_of_step-plan.ensures in
    let turned = c.reversed-inv.ensures in
    let e = c.over.ensures in
    (e.0 ∙ plan-list _ _ _ _ turned there, e.1 ∙ plan-tally _ _ _ _ turned there)
