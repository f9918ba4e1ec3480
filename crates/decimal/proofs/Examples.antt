-- Known values of the definitions. Assumes nothing.
use mathlib.Core.Path.{◌≡◌, refl}
use mathlib.Core.Bool.{true, false}
use lib.Ieee.{of_bits, to_bits, of_int, neg, add, mul, div, lt, round, size}
use Rattle.floats.specs.Binary64.{bits}
use Rattle.floats.specs.Number.{sign_of, same_of}
use Rattle.std.specs.declared.option.Option.TheVariants.{None}
use Rattle.decimal.specs.Places.{ten_to, whole_of, digits_of, read_of, passes_of, first_from, decimal_of, found}

-- numbers of the published shifts and of the ellipsoids: 0.554, -0.198, 6377397.155, 298.257223563,
-- 0.219, 2010, 1e-9
published :
    (decimal_of (bits 0x3fe1_ba5e_353f_7cee) ≡ found false 554 3)
    × (decimal_of (bits 0xbfc9_5810_624d_d2f2) ≡ found true 198 3)
    × (decimal_of (bits 0x4158_53ed_49eb_851f) ≡ found false 6377397155 3)
    × (decimal_of (bits 0x4072_a41d_9674_6d88) ≡ found false 298257223563 9)
    × (decimal_of (bits 0x3fcc_0831_26e9_78d5) ≡ found false 219 3)
    × (decimal_of (bits 0x409f_6800_0000_0000) ≡ found false 2010 0)
    × (decimal_of (bits 0x3e11_2e0b_e826_d695) ≡ found false 1 9)
unfolding ten_to whole_of digits_of read_of passes_of first_from decimal_of same_of sign_of of_bits to_bits of_int neg add mul div lt round size
published = (refl, refl, refl, refl, refl, refl, refl)

-- the zeros by their sign, and the most places
edges :
    (decimal_of (bits 0) ≡ found false 0 0)
    × (decimal_of (bits 0x8000_0000_0000_0000) ≡ found true 0 0)
    × (decimal_of (bits 0x3b5e_3920_1017_5ee6) ≡ found false 1 22)
unfolding ten_to whole_of digits_of read_of passes_of first_from decimal_of same_of sign_of of_bits to_bits of_int neg add mul div lt round size
edges = (refl, refl, refl)

-- none: NaN, an infinity, 2^1000
none :
    (decimal_of (bits 0x7ff8_0000_0000_0000) ≡ None)
    × (decimal_of (bits 0x7ff0_0000_0000_0000) ≡ None)
    × (decimal_of (bits 0x7e70_0000_0000_0000) ≡ None)
unfolding ten_to whole_of digits_of read_of passes_of first_from decimal_of same_of sign_of of_bits to_bits of_int neg add mul div lt round size
none = (refl, refl, refl)
