-- Invariant: the first j rows have passed, whatever state the lanes were made from. A turn is one
-- lane more (`lane_row`). Assumes nothing.
use Prim.Native.Nat.{◌+◌, ◌≤◌}
use mathlib.Core.Path.{◌≡◌}
use lib.ListN.{length}
use Rattle.helmert.specs.declared.State.{State}
use Rattle.helmert.specs.Modes.{running_of}
use Rattle.helmert.specs.Turns.{stepped_turns}
use Rattle.columns.specs.Columns.{Level, flat_of}
use Rattle.columns.specs.Passed.{Passed}
use Rattle.helmert_running_columns.specs.Lanes.{Lanes, states_of}
use Rattle.helmert_running_columns.proofs.lanes.Given as goal

abbrev pub invariant-loop-j : goal.invariant-loop-j
invariant-loop-j l =
    Level l.x l.y l.z l.t × (length l.x ≡ length l.initial.x) × (l.j ≤ 16)
    × ((from : State) → Lanes l.shift from l.t l.i l.tx l.ty l.tz l.d → Passed (stepped_turns (running_of l.shift l.inverse)) l.i from (flat_of l.initial.x l.initial.y l.initial.z l.t) (l.i + l.j) (states_of l.shift from l.t l.i l.j) (flat_of l.x l.y l.z l.t) l.j)
