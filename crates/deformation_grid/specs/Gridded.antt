-- Deformation by a velocity grid: the step's own definition, fed by what the grid gives at the place
-- of the tuple as it reaches the step. The place is `geographic`'s longitude and latitude on the
-- step's ellipsoid.
use Rattle.std.specs.Prelude.{ℕ, Bool, List}
use Rattle.tuple.specs.declared.Tuple.{Tuple}
use Rattle.tuple.specs.declared.Shifted.{Shifted}
use Rattle.ellipsoid.specs.declared.Ellipsoid.{Ellipsoid}
use Rattle.geocart.specs.Geocart.{place_of}
use Rattle.deformation.specs.declared.Motion.{Motion}
use Rattle.deformation.specs.declared.Velocity.{Velocity}
use Rattle.deformation.specs.Step.{common_of as deformation_of}
use Rattle.lists.specs.Run.{Turns}
use Rattle.helmert.specs.declared.State.{State}
use Rattle.turns.specs.Turns.{plain_turns}
use Rattle.grid.specs.declared.Axis.{Axis}
use Rattle.grid.specs.declared.Marked.{Marked}
use Rattle.grid.specs.Lookup.{found_in, found_of}

-- the velocity that was found, as the step takes it
abbrev pub velocity_of : Marked → Velocity
velocity_of found = record { east = found.east; north = found.north; up = found.up }

-- what a grid's bytes give at the place of a tuple
abbrev pub found_for : Ellipsoid → List ℕ → Tuple → Marked
found_for ellps s v = let place = place_of ellps v in found_of s place.lam place.phi

-- a tuple moved by the velocity found at its place; absent where none is found
unfoldable pub gridded_of : Motion → Bool → List ℕ → Tuple → Shifted
gridded_of op inverse s v =
    let found = found_for op.ellps s v in
    deformation_of op inverse (velocity_of found) found.mark v

-- the step over a list: no fix is asked for its index
abbrev pub gridded_turns : Motion → Bool → List ℕ → Turns State
gridded_turns op inverse s = plain_turns (gridded_of op inverse s)

-- ---- the same in bytes whose axes are read already, as the code has it

unfoldable pub gridded_in : Motion → Bool → List ℕ → Axis → Axis → Tuple → Shifted
gridded_in op inverse s rows columns v =
    let place = place_of op.ellps v in
    let found = found_in s rows columns place.lam place.phi in
    deformation_of op inverse (velocity_of found) found.mark v
