-- Calls are replaced by what they ensure, and the plan from its start by the sheet's step
-- (`list_at`, `tally-told`). Assumes nothing.
use mathlib.Core.Path.{◌∙◌}
use Rattle.chain.proofs.Windows.{list_at, tally-told}
use Rattle.chain.proofs.step_at.Goals as goal

pub returns : goal.returns
returns c =
    let below = c.requires.0 in
    let there = c.plan_at-plan.ensures in
    let e = rw c.start.ensures at c.run-part.ensures in
    (e.0 ∙ list_at _ _ _ _ below there _, tally-told _ _ _ _ below there _ e.2 e.3)
