-- Invariant: where no time before i was equal to the one before it, n of the rows before i meet it,
-- and the run reaches row i in the state that is carried, whose last time is the one before
-- (`ApartTo`). equal and n are at most i, and i at most the length. Assumes nothing.
use Prim.Native.Nat.{◌≤◌}
use lib.ListN.{length}
use mathlib.Core.Path.{◌≡◌}
use mathlib.Core.Bool.{true}
use Rattle.columns.specs.Columns.{Level}
use Rattle.helmert.specs.Modes.{is_running_of}
use Rattle.reach_columns.proofs.Times.{ApartTo}
use Rattle.reach_columns.proofs.running_apart.Given as goal

abbrev pub invariant-loop-i : goal.invariant-loop-i
invariant-loop-i l =
    ((level : Level l.x l.y l.z l.t) (running : is_running_of l.shift ≡ true) (rotated : l.shift.rotated ≡ true) (exact : l.shift.exact ≡ true) → ApartTo l.inverse l.shift l.initial.state l.x l.y l.z l.t level running rotated exact l.i l.state l.before l.equal l.n) × (l.equal ≤ l.i) × (l.n ≤ l.i) × (l.i ≤ length l.t)
