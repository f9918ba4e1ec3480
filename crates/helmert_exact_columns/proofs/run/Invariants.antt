-- Columns of unequal length stand for no tuple (`flat-uneven`), before and after. Otherwise the
-- invariant is: the columns are of one length, which stays, and the rows before i have passed
-- (`Passed`). Sixteen rows or a run of one time pass at a turn, and join what has passed before
-- (`passed_on`). With no row left the columns are what the step makes of the whole list
-- (`passed_through`). The measure is how many rows are left. Assumes nothing.
use Prim.Native.Nat.{◌-◌, ◌≤◌}
use mathlib.Core.Path.{◌≡◌}
use lib.ListN.{length}
use Rattle.columns.specs.Columns.{Level, flat_of}
use Rattle.columns.specs.Passed.{Passed}
use Rattle.helmert_exact_columns.specs.Exact.{exact_turns}
use Rattle.helmert_exact_columns.proofs.run.Given as goal

abbrev pub invariant-loop-i : goal.invariant-loop-i
invariant-loop-i l =
    Level l.x l.y l.z l.t × (length l.x ≡ length l.initial.x) × (l.i ≤ length l.x) × Passed (exact_turns l.own l.shift l.inverse) 0 l.initial.state (flat_of l.initial.x l.initial.y l.initial.z l.t) l.i l.state (flat_of l.x l.y l.z l.t) l.i

abbrev pub decreases-loop-i : goal.decreases-loop-i
decreases-loop-i l = length l.initial.x - l.i
