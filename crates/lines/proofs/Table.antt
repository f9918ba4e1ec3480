-- The ellipsoids' lines as they are written are the table's figures: computed. Assumes nothing.
use mathlib.Core.Path.{◌≡◌, refl}
use mathlib.Core.List.{◌++◌}
use lib.Ieee.{of_bits, to_bits, of_int, neg, add, mul, div, lt, round, size}
use Rattle.floats.specs.Number.{sign_of, same_of}
use Rattle.text.specs.Ascii.{ascii}
use Rattle.text.specs.Digits.{digits_of, places_of}
use Rattle.text.specs.Digits.{decimal_of as whole_text}
use Rattle.decimal.specs.Places.{ten_to, whole_of, digits_of as tried_of, read_of, passes_of, first_from, decimal_of}
use Rattle.figures.specs.Figures.{sign_text, fraction_text, fixed_text, either_text, number_text}
use Rattle.lines.specs.Lines.{axes_text}

pub grs80 : ascii " GRS80" ++ axes_text 1 ≡ ascii " GRS80, a 6378137 m, 1/f 298.257222101\n"
unfolding sign_text fraction_text fixed_text either_text number_text whole_text digits_of places_of ten_to whole_of tried_of read_of passes_of first_from decimal_of same_of sign_of of_bits to_bits of_int neg add mul div lt round size
grs80 = refl

pub wgs84 : ascii " WGS84" ++ axes_text 2 ≡ ascii " WGS84, a 6378137 m, 1/f 298.257223563\n"
unfolding sign_text fraction_text fixed_text either_text number_text whole_text digits_of places_of ten_to whole_of tried_of read_of passes_of first_from decimal_of same_of sign_of of_bits to_bits of_int neg add mul div lt round size
wgs84 = refl

pub international : ascii " International 1924" ++ axes_text 3 ≡ ascii " International 1924, a 6378388 m, 1/f 297\n"
unfolding sign_text fraction_text fixed_text either_text number_text whole_text digits_of places_of ten_to whole_of tried_of read_of passes_of first_from decimal_of same_of sign_of of_bits to_bits of_int neg add mul div lt round size
international = refl

pub bessel : ascii " Bessel 1841" ++ axes_text 4 ≡ ascii " Bessel 1841, a 6377397.155 m, 1/f 299.1528128\n"
unfolding sign_text fraction_text fixed_text either_text number_text whole_text digits_of places_of ten_to whole_of tried_of read_of passes_of first_from decimal_of same_of sign_of of_bits to_bits of_int neg add mul div lt round size
bessel = refl

pub krassowsky : ascii " Krassowsky 1940" ++ axes_text 5 ≡ ascii " Krassowsky 1940, a 6378245 m, 1/f 298.3\n"
unfolding sign_text fraction_text fixed_text either_text number_text whole_text digits_of places_of ten_to whole_of tried_of read_of passes_of first_from decimal_of same_of sign_of of_bits to_bits of_int neg add mul div lt round size
krassowsky = refl
