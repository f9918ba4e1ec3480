-- What the last loop of a block chooses between.
use Rattle.std.specs.Prelude.{cond, Float}
use Rattle.std.specs.Float.Ieee.{lt}
use Rattle.geocart.specs.Geocart.{pole_of}

-- the latitude: a pole's within the cutoff of the axis
abbrev pub latitude_of : Float → Float → Float → Float → Float
latitude_of cutoff p Z phi = cond (lt p cutoff) (pole_of Z) phi
