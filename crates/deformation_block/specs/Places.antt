-- The step over columns: sixteen velocities, marks, places and tuples, and what `common` gives
-- where the place is the tuple's own (law `moved-common`); and the parts that it is worked out in,
-- one loop each.
use Rattle.std.specs.Prelude.{ℕ, Bool, cond, List, eqb, Float}
use Rattle.std.specs.Float.{nan}
use Rattle.floats.specs.Binary64.{bits}
use Rattle.blocks.specs.Each.{at, whole_at}
use Rattle.trig.specs.declared.SinCos.{SinCos}
use Rattle.tuple.specs.declared.Tuple.{Tuple}
use Rattle.tuple.specs.declared.Shifted.{Shifted}
use Rattle.tuple.specs.Columns.{row_of}
use Rattle.deformation.specs.declared.Motion.{Motion}
use Rattle.deformation.specs.declared.Velocity.{Velocity}
use Rattle.deformation.specs.Step.{lasting_of, scale_of, east_north_up_of, deformed_at_of}

-- the velocity at a place of the columns
abbrev pub velocity_of : List Float → List Float → List Float → ℕ → Velocity
velocity_of east north up j = record { east = at east j; north = at north j; up = at up j }

-- the place of the tuple there: longitude, latitude and time. No height is read.
abbrev pub geo_at : List Float → List Float → List Float → ℕ → Tuple
geo_at lam phi t j = record { x = at lam j; y = at phi j; z = bits 0; t = at t j }

-- the step there, with the place at hand
abbrev pub moved_at :
    Motion → Bool → List Float → List Float → List Float → List ℕ → List Float → List Float → List Float → List Float → List Float → List Float → ℕ → Shifted
moved_at op inverse east north up marks lam phi x y z t j =
    deformed_at_of op inverse (velocity_of east north up j) (whole_at marks j) (geo_at lam phi t j) (row_of x y z t j)

-- ---- parts

-- sine and cosine at a place
abbrev pub sin_cos_at : List Float → List Float → ℕ → SinCos
sin_cos_at s c j = record { s = at s j; c = at c j }

-- the correction at a place: of the velocity times k, over columns of sines and cosines of
-- longitude and latitude
abbrev pub turned_at :
    Motion → Bool → Float → List Float → List Float → List Float → List Float → List Float → List Float → List Float → List Float → ℕ → Tuple
turned_at op fixed k east north up t slon clon slat clat j =
    east_north_up_of (scale_of (velocity_of east north up j) k) (sin_cos_at slon clon j) (sin_cos_at slat clat j) (lasting_of op fixed (at t j))

-- the correction at a place of its columns
abbrev pub correction_at : List Float → List Float → List Float → ℕ → Tuple
correction_at dx dy dz j = record { x = at dx j; y = at dy j; z = at dz j; t = bits 0 }

-- mark 1: the number; else NaN
abbrev pub kept_of : ℕ → Float → Float
kept_of mark v = cond (eqb mark 1) v nan
