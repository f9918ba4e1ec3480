-- Signs, sameness and powers of binary64 numbers.
use Rattle.std.specs.Prelude.{Bool, false, cond, eqb, Float}
use Rattle.std.specs.Float.{nan, inf, fin, binary64}
use Rattle.std.specs.Float.Ieee.{to_bits, neg}
use Rattle.floats.specs.Binary64.{◌⊗◌}

-- Whether a number carries a minus sign: -0 does, and the one NaN counts as without.
unfoldable pub sign_of : Float → Bool
sign_of nan = false
sign_of (inf s) = s
sign_of (fin s m e) = s

-- |x|
abbrev pub abs_of : Float → Float
abs_of x = cond (sign_of x) (neg x) x

-- the magnitude of x with the sign of y
abbrev pub copysign_of : Float → Float → Float
copysign_of x y = cond (sign_of y) (neg (abs_of x)) (abs_of x)

-- Whether two numbers are the same as data: the same 64 bits, where every NaN is written as the one
-- 7ff8000000000000. So NaN is the same as NaN, and -0 is not +0.
unfoldable pub same_of : Float → Float → Bool
same_of x y = eqb (to_bits binary64 x) (to_bits binary64 y)

-- the second and third power, as products from the left
abbrev pub square_of : Float → Float
square_of x = x ⊗ x

abbrev pub cube_of : Float → Float
cube_of x = x ⊗ x ⊗ x
