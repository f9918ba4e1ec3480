-- Known values of the definitions. Assumes nothing.
use mathlib.Core.Path.{◌≡◌, refl}
use mathlib.Core.Bool.{true, false}
use lib.Ieee.{of_bits, to_bits, neg, mul, round, size}
use Rattle.floats.specs.Binary64.{bits}
use Rattle.floats.specs.Number.{sign_of, abs_of, copysign_of, same_of, square_of, cube_of}

-- -0 carries a sign, and its magnitude is +0
minus_zero_lem : (sign_of (bits 0x8000_0000_0000_0000) ≡ true) × (abs_of (bits 0x8000_0000_0000_0000) ≡ bits 0)
unfolding sign_of of_bits neg
minus_zero_lem = (refl, refl)

-- 2 with the sign of -0 is -2
two_with_a_minus : copysign_of (bits 0x4000_0000_0000_0000) (bits 0x8000_0000_0000_0000) ≡ bits 0xc000_0000_0000_0000
unfolding sign_of of_bits neg
two_with_a_minus = refl

-- NaN is the same as NaN whatever its bits, and -0 is not the same as +0
nan_with_nan : same_of (bits 0x7ff8_0000_0000_0000) (bits 0xfff0_0000_0000_0001) ≡ true
unfolding same_of of_bits to_bits
nan_with_nan = refl

zeros_by_sign : same_of (bits 0) (bits 0x8000_0000_0000_0000) ≡ false
unfolding same_of of_bits to_bits size
zeros_by_sign = refl

-- 1.5² = 2.25 and 1.5³ = 3.375
powers : (square_of (bits 0x3ff8_0000_0000_0000) ≡ bits 0x4002_0000_0000_0000) × (cube_of (bits 0x3ff8_0000_0000_0000) ≡ bits 0x400b_0000_0000_0000)
unfolding of_bits mul round size
powers = (refl, refl)
