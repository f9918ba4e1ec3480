-- What the last loops of a block choose between.
use Rattle.std.specs.Prelude.{Bool, false, not, cond, Float}
use Rattle.std.specs.Float.Ieee.{lt}
use Rattle.tuple.specs.declared.Tuple.{Tuple}
use Rattle.tuple.specs.Sums.{any_nan_of}
use Rattle.geocart.specs.Geocart.{pole_height_of}
use Rattle.cart.specs.declared.Inverse.{Inverse}

-- the height: a pole's within the cutoff of the axis
abbrev pub level_of : Inverse → Float → Float → Float → Float
level_of k p Z h = cond (lt p k.cutoff) (pole_height_of k.ellps Z) h

-- whether a tuple at p from the axis counts
abbrev pub counts_of : Inverse → Float → Tuple → Bool
counts_of k p v = cond (lt p k.cutoff) false (not (any_nan_of v))
