-- Roots that the definition works out: exact squares, well-known digits, the ends of the range, and
-- what is no positive number. Assumes nothing.
use Rattle.std.proofs.Common.{◌≡◌, ℕ, refl}
use lib.Ieee.{binary64, of_bits, size}
use Rattle.root.specs.Sqrt.{sqrt_of}

-- the root of the number with the bits x has the bits r
abbrev RootBits : ℕ → ℕ → Type 0
RootBits x r = sqrt_of (of_bits binary64 x) ≡ of_bits binary64 r

-- √1 = 1
one : RootBits 0x3ff0000000000000 0x3ff0000000000000
unfolding sqrt_of of_bits size
one = refl

-- √4 = 2
four : RootBits 0x4010000000000000 0x4000000000000000
unfolding sqrt_of of_bits size
four = refl

-- √0.25 = 0.5
quarter : RootBits 0x3fd0000000000000 0x3fe0000000000000
unfolding sqrt_of of_bits size
quarter = refl

-- 94906265² = 9007199136250225, the largest square below 2 ^ 53
largest_exact_square : RootBits 0x433ffffff8eff971 0x4196a09e64000000
unfolding sqrt_of of_bits size
largest_exact_square = refl

-- √2 = 1.4142135623730951
two : RootBits 0x4000000000000000 0x3ff6a09e667f3bcd
unfolding sqrt_of of_bits size
two = refl

-- √3 = 1.7320508075688772
three : RootBits 0x4008000000000000 0x3ffbb67ae8584caa
unfolding sqrt_of of_bits size
three = refl

-- √10 = 3.1622776601683795
ten : RootBits 0x4024000000000000 0x40094c583ada5b53
unfolding sqrt_of of_bits size
ten = refl

-- √0.1 = 0.31622776601683794
tenth : RootBits 0x3fb999999999999a 0x3fd43d136248490f
unfolding sqrt_of of_bits size
tenth = refl

-- the next number above 1: its root lies nearest to 1
just_above_one : RootBits 0x3ff0000000000001 0x3ff0000000000000
unfolding sqrt_of of_bits size
just_above_one = refl

-- the next number below 1: its root lies half a step below 1, and nearer to that number than to 1
just_below_one : RootBits 0x3fefffffffffffff 0x3fefffffffffffff
unfolding sqrt_of of_bits size
just_below_one = refl

-- the next number below 4
just_below_four : RootBits 0x400fffffffffffff 0x3fffffffffffffff
unfolding sqrt_of of_bits size
just_below_four = refl

-- 2 ^ -1074, the least positive number
least_subnormal : RootBits 0x1 0x1e60000000000000
unfolding sqrt_of of_bits size
least_subnormal = refl

-- the largest subnormal number
largest_subnormal : RootBits 0xfffffffffffff 0x1fffffffffffffff
unfolding sqrt_of of_bits size
largest_subnormal = refl

-- 2 ^ -1022, the least normal number
least_normal : RootBits 0x10000000000000 0x2000000000000000
unfolding sqrt_of of_bits size
least_normal = refl

-- the largest finite number
largest : RootBits 0x7fefffffffffffff 0x5fefffffffffffff
unfolding sqrt_of of_bits size
largest = refl

-- +0
plus_zero : RootBits 0x0 0x0
unfolding sqrt_of of_bits size
plus_zero = refl

-- -0
minus_zero_lem : RootBits 0x8000000000000000 0x8000000000000000
unfolding sqrt_of of_bits size
minus_zero_lem = refl

-- +∞
plus_infinity : RootBits 0x7ff0000000000000 0x7ff0000000000000
unfolding sqrt_of of_bits size
plus_infinity = refl

-- -1: NaN
minus_one : RootBits 0xbff0000000000000 0x7ff8000000000000
unfolding sqrt_of of_bits size
minus_one = refl

-- -2 ^ -1074: NaN
minus_least : RootBits 0x8000000000000001 0x7ff8000000000000
unfolding sqrt_of of_bits size
minus_least = refl

-- -∞: NaN
minus_infinity : RootBits 0xfff0000000000000 0x7ff8000000000000
unfolding sqrt_of of_bits size
minus_infinity = refl

-- NaN
not_a_number : RootBits 0x7ff8000000000000 0x7ff8000000000000
unfolding sqrt_of of_bits size
not_a_number = refl
