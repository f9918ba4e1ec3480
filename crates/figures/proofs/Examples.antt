-- Known values of the definitions. Assumes nothing.
use mathlib.Core.Path.{◌≡◌, refl}
use lib.Ieee.{of_bits, to_bits, of_int, neg, add, mul, div, lt, round, size}
use Rattle.floats.specs.Number.{sign_of, same_of}
use Rattle.text.specs.Ascii.{ascii}
use Rattle.text.specs.Digits.{digits_of, places_of, hex_of}
use Rattle.text.specs.Digits.{decimal_of as whole_text}
use Rattle.decimal.specs.Places.{ten_to, whole_of, digits_of as tried_of, read_of, passes_of, first_from, decimal_of}
use Rattle.figures.specs.Figures.{sign_text, fraction_text, fixed_text, either_text, number_text, time_text}

-- as a data sheet has them
numbers :
    (number_text 0x3fe1_ba5e_353f_7cee ≡ ascii "0.554")
    × (number_text 0xbfc9_5810_624d_d2f2 ≡ ascii "-0.198")
    × (number_text 0x4158_53ed_49eb_851f ≡ ascii "6377397.155")
    × (number_text 0x409f_6800_0000_0000 ≡ ascii "2010")
    × (number_text 0x3e11_2e0b_e826_d695 ≡ ascii "0.000000001")
    × (number_text 0x7ff0_0000_0000_0000 ≡ ascii "bits 0x7ff0000000000000")
unfolding sign_text fraction_text fixed_text either_text number_text whole_text digits_of places_of hex_of ten_to whole_of tried_of read_of passes_of first_from decimal_of same_of sign_of of_bits to_bits of_int neg add mul div lt round size
numbers = (refl, refl, refl, refl, refl, refl)

times : (time_text 0x7ff8_0000_0000_0000 ≡ ascii "not given") × (time_text 0x409f_6800_0000_0000 ≡ ascii "2010 year")
unfolding time_text sign_text fraction_text fixed_text either_text number_text whole_text digits_of places_of ten_to whole_of tried_of read_of passes_of first_from decimal_of same_of sign_of of_bits to_bits of_int neg add mul div lt round size
times = (refl, refl)
