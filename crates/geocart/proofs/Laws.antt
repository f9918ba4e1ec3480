-- What is true of geographic coordinates, for callers to cite. Assumes nothing.
use mathlib.Core.Path.{◌≡◌, refl}
use mathlib.Core.Bool.{Bool, true, false, cond}
use lib.Ieee.{lt}
use Rattle.hypot.specs.Hypot.{hypot_of}
use Rattle.tuple.specs.declared.Tuple.{Tuple}
use Rattle.ellipsoid.specs.declared.Ellipsoid.{Ellipsoid}
use Rattle.geocart.specs.Geocart.{cutoff, geographic_of}

time_of_either : (b : Bool) (v w : Tuple) → v.t ≡ w.t → (cond b v w).t ≡ w.t
time_of_either true v w h = h
time_of_either false v w h = refl

-- the time stays
pub geographic_time : (e : Ellipsoid) (cartesian : Tuple) → (geographic_of e cartesian).t ≡ cartesian.t
unfolding geographic_of
geographic_time e cartesian = time_of_either (lt (hypot_of cartesian.x cartesian.y) cutoff) _ _ refl
