-- Invariant: j of the sixteen rows have passed (`Passed`), and the state is that after them
-- (`states_of`). A turn takes the state on by one row (`state-more`). S is taken at its last time,
-- and the matrix that is ready for the row is the one at that time (`sined-matrix`), so the row
-- passes (`met-row`). Assumes nothing.
use Prim.Native.Nat.{◌+◌, ◌≤◌}
use mathlib.Core.Path.{◌≡◌}
use lib.ListN.{length}
use Rattle.columns.specs.Columns.{Level, flat_of}
use Rattle.columns.specs.Passed.{Passed}
use Rattle.helmert_exact_columns.specs.Exact.{exact_turns, states_of}
use Rattle.helmert_exact_columns.proofs.turn_sixteen.Given as goal

abbrev pub invariant-loop-j : goal.invariant-loop-j
invariant-loop-j l =
    Level l.x l.y l.z l.t × (length l.x ≡ length l.initial.x) × (l.j ≤ 16) × (l.state ≡ states_of l.own l.shift l.initial.state l.t l.i l.j)
    × Passed (exact_turns l.own l.shift l.inverse) l.i l.initial.state (flat_of l.initial.x l.initial.y l.initial.z l.t) (l.i + l.j) l.state (flat_of l.x l.y l.z l.t) l.j
