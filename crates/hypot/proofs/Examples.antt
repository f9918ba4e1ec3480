-- Known lengths, evaluated from the definition. Assumes nothing.
use mathlib.Core.Path.{◌≡◌, refl}
use mathlib.Core.Bool.{false}
use lib.Ieee.{inf, of_bits, to_bits, neg, add, sub, mul, lt, round, size}
use Rattle.floats.specs.Binary64.{bits}
use Rattle.floats.specs.Number.{sign_of}
use Rattle.hypot.specs.Hypot.{infinite, larger, smaller, squares_of, ordinary, guess_of, reciprocal_root_of, root_of, scaled_root_of, rescaled_of, length_of, bounded_of, hypot_of}

three-four : hypot_of (bits 0x4008_0000_0000_0000) (bits 0x4010_0000_0000_0000) ≡ bits 0x4014_0000_0000_0000
unfolding hypot_of infinite larger smaller squares_of ordinary guess_of reciprocal_root_of root_of length_of bounded_of sign_of of_bits to_bits neg add sub mul lt round size
three-four = refl

-- -12 and 5
minus_twelve_five : hypot_of (bits 0xc028_0000_0000_0000) (bits 0x4014_0000_0000_0000) ≡ bits 0x402a_0000_0000_0000
unfolding hypot_of infinite larger smaller squares_of ordinary guess_of reciprocal_root_of root_of length_of bounded_of sign_of of_bits to_bits neg add sub mul lt round size
minus_twelve_five = refl

-- 3 and 4 times 2¹⁰⁰⁰, whose squares overflow
huge : hypot_of (bits 0x7e88_0000_0000_0000) (bits 0x7e90_0000_0000_0000) ≡ bits 0x7e94_0000_0000_0000
unfolding hypot_of infinite larger smaller squares_of ordinary guess_of reciprocal_root_of root_of scaled_root_of rescaled_of length_of bounded_of sign_of of_bits to_bits neg add sub mul lt round size
huge = refl

-- 5 and 12 times 2⁻¹⁰⁷⁴, the least number, whose squares underflow
tiny : hypot_of (bits 5) (bits 12) ≡ bits 13
unfolding hypot_of infinite larger smaller squares_of ordinary guess_of reciprocal_root_of root_of scaled_root_of rescaled_of length_of bounded_of sign_of of_bits to_bits neg add sub mul lt round size
tiny = refl

-- the largest number twice: the length overflows as IEEE 754 has it
overflow : hypot_of (bits 0x7fef_ffff_ffff_ffff) (bits 0x7fef_ffff_ffff_ffff) ≡ inf false
unfolding hypot_of infinite larger smaller squares_of ordinary guess_of reciprocal_root_of root_of scaled_root_of rescaled_of length_of bounded_of sign_of of_bits to_bits neg add sub mul lt round size
overflow = refl

-- 1 and 1: √2, rounded
diagonal : hypot_of (bits 0x3ff0_0000_0000_0000) (bits 0x3ff0_0000_0000_0000) ≡ bits 0x3ff6_a09e_667f_3bcd
unfolding hypot_of infinite larger smaller squares_of ordinary guess_of reciprocal_root_of root_of length_of bounded_of sign_of of_bits to_bits neg add sub mul lt round size
diagonal = refl
