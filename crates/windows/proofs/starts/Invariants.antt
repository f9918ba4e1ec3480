-- Invariant (`Started`): the standings before i are the starts of the steps before i, and the
-- others are still blank. Assumes nothing.
use Rattle.plans.specs.Plans.{plan_in}
use Rattle.windows.proofs.Steps.{Started}
use Rattle.windows.proofs.starts.Given as goal

abbrev pub invariant-loop-i : goal.invariant-loop-i
invariant-loop-i l = Started (plan_in l.plans) l.n l.i l.standings
