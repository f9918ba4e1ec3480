-- What the loops over a block hand to one another: the parts of a sine and a cosine, as functions
-- of the angle, and how they are joined.
use Rattle.std.specs.Prelude.{ℕ, Bool, false, cond, Float}
use Rattle.std.specs.Float.{nan}
use Rattle.std.specs.Float.Ieee.{neg, eq, ne, le}
use Rattle.floats.specs.Binary64.{bits}
use Rattle.floats.specs.Number.{abs_of}
use Rattle.trig.specs.declared.SinCos.{SinCos}
use Rattle.trig.specs.declared.Row.{Row}
use Rattle.trig.specs.Trig.{one, reach, reduced_of, bend_of, sum_of, signed_of, mirrored_of}

-- x, or 0 in the place of a NaN
unfoldable pub number_of : Float → Float
number_of x = cond (ne x x) (bits 0) x

-- step and rest of its magnitude, and what rounding took from the rest
abbrev pub step_of : Float → ℕ
step_of x = (reduced_of (abs_of (number_of x))).step

abbrev pub rest_of : Float → Float
rest_of x = (reduced_of (abs_of (number_of x))).rest

abbrev pub tail_of : Float → Float
tail_of x = (reduced_of (abs_of (number_of x))).tail

-- an angle that is neither zero nor out of reach, and so no NaN
unfoldable pub usual_of : Float → Bool
usual_of x = cond (eq x (bits 0)) false (le (abs_of x) reach)

-- the sine of x from s, that of |x|
unfoldable pub sin_from : Float → Float → Float
sin_from x s = cond (eq x (bits 0)) x (cond (le (abs_of x) reach) (signed_of s x) nan)

-- the cosine of x from c, that of |x|
unfoldable pub cos_from : Float → Float → Float
cos_from x c = cond (eq x (bits 0)) one (cond (le (abs_of x) reach) c nan)

-- both of |x|, from its rest, what rounding took from that, and the row
abbrev pub pair_from : Float → Float → Row → SinCos
pair_from r tail w =
    let b = bend_of r tail in
    record { s = sum_of w.0 w.1 w.2 r b; c = sum_of w.2 w.3 (neg w.0) r b }

-- both of a usual x
abbrev pub usual_from : Float → Float → Float → Row → SinCos
usual_from x r tail w = record { s = mirrored_of (pair_from r tail w).s x; c = (pair_from r tail w).c }

-- both of any x
abbrev pub both_from : Float → Float → Float → Row → SinCos
both_from x r tail w = record { s = sin_from x (pair_from r tail w).s; c = cos_from x (pair_from r tail w).c }
