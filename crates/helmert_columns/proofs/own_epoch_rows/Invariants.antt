-- Invariant: the rows before i have passed. A turn is one row more, at its own time
-- (`own-epoch-row`). Assumes nothing.
use Prim.Native.Nat.{◌^◌, ◌<◌}
use mathlib.Core.Path.{◌≡◌}
use lib.ListN.{length}
use Rattle.columns.specs.Columns.{Level, flat_of}
use Rattle.columns.specs.Passed.{Passed}
use Rattle.helmert.specs.Modes.{own_epoch_step_of}
use Rattle.helmert.specs.Turns.{no_state, all_turns}
use Rattle.helmert_columns.proofs.own_epoch_rows.Given as goal

abbrev pub invariant-loop-i : goal.invariant-loop-i
invariant-loop-i l =
    Level l.x l.y l.z l.t × (length l.x ≡ length l.initial.x) × (length l.x < 2 ^ 64)
    × Passed (all_turns (own_epoch_step_of l.shift l.inverse)) 0 no_state (flat_of l.initial.x l.initial.y l.initial.z l.t) l.i no_state (flat_of l.x l.y l.z l.t) l.i
