-- The one step's plan over the list is the chain of one step, and its tally stands first
-- (`one-step`). Assumes nothing.
use Rattle.plans.specs.Lent.{lent_in}
use Rattle.chain.proofs.Windows.{one-step}
use Rattle.chain.proofs.alone.Goals as goal

pub returns : goal.returns
returns c =
    let a = c.args in
    let e = c.over-tally.ensures in
    rw c.none-tallies.ensures (one-step a.inverse (lent_in a.lent) a.s.now c.requires a.list.now c.plan_at-plan.ensures e.0 e.1)
