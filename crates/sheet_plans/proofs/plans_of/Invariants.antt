-- Invariant (`Ready`): the plans before i are those of the steps before i. A turn puts in step i's
-- (`ready-again`). Assumes nothing.
use Prim.Native.Nat.{◌≤◌}
use mathlib.Core.Path.{◌≡◌}
use lib.ListN.{length}
use Rattle.plans.specs.Plans.{Ready}
use Rattle.sheet_plans.specs.Sheets.{plan_at}
use Rattle.sheet_plans.proofs.plans_of.Given as goal

abbrev pub invariant-loop-i : goal.invariant-loop-i
invariant-loop-i l = (l.steps ≤ 16) × (length l.plans ≡ 16) × Ready (plan_at l.inverse l.s) l.i l.plans
