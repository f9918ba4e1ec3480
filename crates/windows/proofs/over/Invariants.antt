-- Invariant (`Going`): what the steps make of the rows from i on, each from its standing, is what they
-- make of the whole list: the list, and the standings; the four rooms have 128 rows. A window joins
-- by `going-again`. The measure is how many rows are left. Assumes nothing.
use Prim.Native.Nat.{◌-◌, ◌≤◌, ◌<◌}
use mathlib.Core.Path.{◌≡◌}
use lib.ListN.{length}
use Rattle.windows.specs.Steps.{pass_in, passes_from}
use Rattle.windows.proofs.Steps.{Going}
use Rattle.plans.specs.Lent.{lent_in}
use Rattle.windows.proofs.over.Given as goal

abbrev pub invariant-loop-i : goal.invariant-loop-i
invariant-loop-i l =
    (l.i ≤ l.rows) × (128 ≡ length l.x) × (128 ≡ length l.y) × (128 ≡ length l.z) × (128 ≡ length l.t) × (l.steps ≤ 16) × Going l.inverse (passes_from (pass_in (lent_in l.lent) l.plans) l.steps 0) l.initial.standings l.initial.list l.i l.standings l.list × (l.rows < 4611686018427387904)

abbrev pub decreases-loop-i : goal.decreases-loop-i
decreases-loop-i l = l.rows - l.i
