-- A deformation record from the numbers that C passes, and its turns by a grid: flag 2 turns the
-- direction round, as with lent velocities.
use Rattle.std.specs.Prelude.{ℕ, Bool, List, Float}
use Rattle.deformation.specs.declared.Deformation.{Deformation}
use Rattle.deformation.specs.Record.{directed_of}
use Rattle.deformation.specs.Step.{motion_of}
use Rattle.lists.specs.Run.{Turns}
use Rattle.helmert.specs.declared.State.{State}
use Rattle.deformation_grid.specs.Gridded.{gridded_turns}

abbrev pub record_of : ℕ → ℕ → Float → Float → Deformation
record_of flags ellipsoid dt epoch = record { flags = flags; ellipsoid = ellipsoid; dt = dt; epoch = epoch }

abbrev pub gridded_step_of : Bool → Deformation → List ℕ → Turns State
gridded_step_of inverse r g = gridded_turns (motion_of r) (directed_of r inverse) g
