-- Invariant: the rows before i have passed, and the state is that after them. A turn is one row
-- more, whatever the matrix (`unrotated-row`). Assumes nothing.
use Prim.Native.Nat.{◌^◌, ◌<◌}
use mathlib.Core.Path.{◌≡◌}
use lib.ListN.{length}
use Rattle.columns.specs.Columns.{Level, flat_of}
use Rattle.columns.specs.Passed.{Passed}
use Rattle.helmert.specs.Modes.{running_of}
use Rattle.helmert.specs.Turns.{stepped_turns}
use Rattle.helmert_running_columns.proofs.one_by_one.Given as goal

abbrev pub invariant-loop-i : goal.invariant-loop-i
invariant-loop-i l =
    Level l.x l.y l.z l.t × (length l.x ≡ length l.initial.x) × (length l.x < 2 ^ 64)
    × Passed (stepped_turns (running_of l.shift l.inverse)) 0 l.initial.state (flat_of l.initial.x l.initial.y l.initial.z l.t) l.i l.state (flat_of l.x l.y l.z l.t) l.i
