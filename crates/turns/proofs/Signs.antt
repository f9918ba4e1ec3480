-- Flag 2 over a list: every tuple and the count of a flagged forward run are those of an unflagged
-- inverse run over the same list, velocities and marks, and of a flagged inverse run those of an
-- unflagged forward run. The turns themselves are equal, so any run of them is. Assumes nothing.
use mathlib.Core.Path.{◌≡◌, refl}
use Prim.Native.Nat.{ℕ, ◌<◌}
use mathlib.Core.Bool.{Bool, not}
use mathlib.Core.List.{List}
use lib.Ieee.{Float}
use Rattle.tuple.specs.declared.Tuple.{Tuple}
use Rattle.helmert.specs.declared.State.{State}
use Rattle.lists.specs.Run.{ran_of, count_of}
use Rattle.deformation.specs.declared.Deformation.{Deformation}
use Rattle.deformation.specs.Step.{record_step_of}
use Rattle.deformation.proofs.Signs.{flagged, motion_stays, plain_direction, flagged_direction, directed_step}
use Rattle.turns.specs.Turns.{velocity_at, mark_at, deformation_turns}

-- a turn is the record's step, by the velocity and the mark of the fix's index
pub turn_is_the_step : (inverse : Bool) (r : Deformation) (velocities : List Float) (marks : List ℕ) (k : ℕ) (state : State) (v : Tuple)
    → let turn = deformation_turns inverse r velocities marks k state v in
    let step = record_step_of r inverse (velocity_at velocities k) (mark_at marks k) v in
    (turn.tuple ≡ step.tuple) × (turn.counted ≡ step.counted)
turn_is_the_step inverse r velocities marks k state v =
    (rw (directed_step r inverse (velocity_at velocities k) (mark_at marks k) v) refl, rw (directed_step r inverse (velocity_at velocities k) (mark_at marks k) v) refl)

module _ (r : Deformation) (plain : r.flags < 2) (inverse : Bool) (velocities : List Float) (marks : List ℕ) where
  turns-agree : deformation_turns inverse (flagged r) velocities marks ≡ deformation_turns (not inverse) r velocities marks
  turns-agree = rw (motion_stays r, flagged_direction r inverse plain, plain_direction r (not inverse) plain)

  pub flagged-list-is-the-other-direction : (k : ℕ) (state : State) (l : List Float)
      → ran_of (deformation_turns inverse (flagged r) velocities marks) k state l
      ≡ ran_of (deformation_turns (not inverse) r velocities marks) k state l
  flagged-list-is-the-other-direction k state l = rw turns-agree

  pub flagged-count-is-the-other-direction : (k : ℕ) (state : State) (l : List Float)
      → count_of (deformation_turns inverse (flagged r) velocities marks) k state l
      ≡ count_of (deformation_turns (not inverse) r velocities marks) k state l
  flagged-count-is-the-other-direction k state l = rw turns-agree
