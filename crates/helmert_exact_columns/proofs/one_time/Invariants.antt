-- The first row passes from the state before it to the state that its time leads to (`met-row`).
-- Invariant of the loop: the rows after it, up to j, have passed at that state, which stays at
-- every row up to the end of the run (`same_row`). Assumes nothing.
use Prim.Native.Nat.{◌-◌, ◌≤◌}
use mathlib.Core.Path.{◌≡◌}
use lib.ListN.{length}
use Rattle.columns.specs.Columns.{Level, flat_of}
use Rattle.columns.specs.Passed.{Passed}
use Rattle.helmert_exact_columns.specs.Exact.{exact_turns}
use Rattle.helmert_exact_columns.proofs.one_time.Given as goal

abbrev pub invariant-loop-j : goal.invariant-loop-j
invariant-loop-j l =
    Level l.x l.y l.z l.t × (length l.x ≡ length l.initial.x) × (l.initial.j ≤ l.j) × (l.j ≤ l.end) × Passed (exact_turns l.own l.fn.shift l.inverse) l.initial.j l.state (flat_of l.initial.x l.initial.y l.initial.z l.t) l.j l.state (flat_of l.x l.y l.z l.t) (l.j - l.initial.j)
