-- The first row goes from the state before it to the state at its time (`met-row`). Invariant of
-- the loop: the rows after it, up to j, have passed at that state; to a row of that time the
-- running step makes what T, S and the matrix make (`same-time`). Assumes nothing.
use Prim.Native.Nat.{◌-◌, ◌≤◌}
use mathlib.Core.Path.{◌≡◌}
use lib.ListN.{length}
use Rattle.columns.specs.Columns.{Level, flat_of}
use Rattle.columns.specs.Passed.{Passed}
use Rattle.helmert.specs.Modes.{running_of}
use Rattle.helmert.specs.Turns.{stepped_turns}
use Rattle.helmert_running_columns.proofs.one_time.Given as goal

abbrev pub invariant-loop-j : goal.invariant-loop-j
invariant-loop-j l =
    Level l.x l.y l.z l.t × (length l.x ≡ length l.initial.x) × (l.initial.j ≤ l.j) × (l.j ≤ l.end) × Passed (stepped_turns (running_of l.fn.shift l.inverse)) l.initial.j l.now (flat_of l.initial.x l.initial.y l.initial.z l.t) l.j l.now (flat_of l.x l.y l.z l.t) (l.j - l.initial.j)
