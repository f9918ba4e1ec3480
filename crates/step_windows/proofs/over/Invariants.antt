-- Invariant (`Passed`): the rows before i have passed through the step, `count` of them counted, and
-- `met` of them met an angle out of reach; the four rooms have 128 rows. A window is one more piece
-- (`passed-window`, `passed-met`). The measure is how many rows are left. Assumes nothing.
use Prim.Native.Nat.{◌-◌, ◌≤◌, ◌<◌}
use mathlib.Core.Path.{◌≡◌}
use lib.ListN.{length}
use Rattle.columns.specs.Passed.{Passed}
use Rattle.plans.specs.Plans.{plan_turns_of, plan_reach_of}
use Rattle.plans.specs.Lent.{lent_in}
use Rattle.step_windows.proofs.over.Given as goal

abbrev pub invariant-loop-i : goal.invariant-loop-i
invariant-loop-i l =
    (l.i ≤ l.rows) × (128 ≡ length l.x) × (128 ≡ length l.y) × (128 ≡ length l.z) × (128 ≡ length l.t) × (length l.list ≡ length l.initial.list) × Passed (plan_turns_of (lent_in l.lent) l.plan) 0 l.initial.state l.initial.list l.i l.state l.list l.count × (l.rows < 4611686018427387904) × Passed (plan_reach_of (lent_in l.lent) l.plan) 0 l.initial.state l.initial.list l.i l.state l.list l.met

abbrev pub decreases-loop-i : goal.decreases-loop-i
decreases-loop-i l = l.rows - l.i
