-- Known angles, evaluated from the definition. Assumes nothing.
use mathlib.Core.Path.{◌≡◌, refl}
use lib.Ieee.{of_bits, to_bits, is_nan, neg, add, sub, mul, div, lt, le, eq, round, size}
use Rattle.floats.specs.Binary64.{bits}
use Rattle.floats.specs.Number.{sign_of}
use Rattle.arctan.specs.Table.{quarter_pi, three_quarter_pi, pi, cells, cell_at, octants, octant_at}
use Rattle.arctan.specs.Arctan.{tail_of, head_of, small_angle_of, cut_angle_of, cell_index_of, small, quotient_angle_of, moderate, scale_of, extreme_angle_of, within_of, octant_index_of, inside_of, along_of, angle_of, atan2_of}

-- atan2 (1, 1) = π/4
one_one : atan2_of (bits 0x3ff0_0000_0000_0000) (bits 0x3ff0_0000_0000_0000) ≡ quarter_pi
unfolding atan2_of angle_of inside_of octant_index_of within_of moderate scale_of extreme_angle_of quotient_angle_of small cell_index_of cell_at cells octant_at octants cut_angle_of tail_of sign_of is_nan of_bits to_bits neg add sub mul div lt le eq round size
one_one = refl

-- atan2 (-1, -1) = -3π/4
minus_one_minus_one : atan2_of (bits 0xbff0_0000_0000_0000) (bits 0xbff0_0000_0000_0000) ≡ neg three_quarter_pi
unfolding atan2_of angle_of inside_of octant_index_of within_of moderate scale_of extreme_angle_of quotient_angle_of small cell_index_of cell_at cells octant_at octants cut_angle_of tail_of sign_of is_nan of_bits to_bits neg add sub mul div lt le eq round size
minus_one_minus_one = refl

-- atan2 (±0, ±0)
zeros : (atan2_of (bits 0) (bits 0) ≡ bits 0) × (atan2_of (bits 0x8000_0000_0000_0000) (bits 0) ≡ bits 0x8000_0000_0000_0000)
    × (atan2_of (bits 0) (bits 0x8000_0000_0000_0000) ≡ pi) × (atan2_of (bits 0x8000_0000_0000_0000) (bits 0x8000_0000_0000_0000) ≡ neg pi)
unfolding atan2_of angle_of along_of sign_of is_nan of_bits neg eq
zeros = (refl, refl, refl, refl)

-- atan2 (3, 4) = arctan 0.75, the nearest number to 0.643501108793284386..
three-four : atan2_of (bits 0x4008_0000_0000_0000) (bits 0x4010_0000_0000_0000) ≡ bits 0x3fe4_978f_a326_9ee1
unfolding atan2_of angle_of inside_of octant_index_of within_of moderate scale_of extreme_angle_of quotient_angle_of small cell_index_of cell_at cells octant_at octants cut_angle_of tail_of sign_of is_nan of_bits to_bits neg add sub mul div lt le eq round size
three-four = refl

-- the same of parts times 2⁻¹⁰⁷⁴, the least number, and times 2¹⁰²⁰
least-three-four : atan2_of (bits 3) (bits 4) ≡ bits 0x3fe4_978f_a326_9ee1
unfolding atan2_of angle_of inside_of octant_index_of within_of moderate scale_of extreme_angle_of quotient_angle_of small cell_index_of cell_at cells octant_at octants cut_angle_of tail_of sign_of is_nan of_bits to_bits neg add sub mul div lt le eq round size
least-three-four = refl

huge-three-four : atan2_of (bits 0x7fc8_0000_0000_0000) (bits 0x7fd0_0000_0000_0000) ≡ bits 0x3fe4_978f_a326_9ee1
unfolding atan2_of angle_of inside_of octant_index_of within_of moderate scale_of extreme_angle_of quotient_angle_of small cell_index_of cell_at cells octant_at octants cut_angle_of tail_of sign_of is_nan of_bits to_bits neg add sub mul div lt le eq round size
huge-three-four = refl

-- atan2 (1, 2²⁰) is near its quotient: the least bits below 2⁻²⁰
small_angle : atan2_of (bits 0x3ff0_0000_0000_0000) (bits 0x4130_0000_0000_0000) ≡ bits 0x3eaf_ffff_ffff_f555
unfolding atan2_of angle_of inside_of octant_index_of within_of moderate scale_of extreme_angle_of quotient_angle_of small cell_index_of small_angle_of head_of tail_of octant_at octants sign_of is_nan of_bits to_bits neg add sub mul div lt le eq round size
small_angle = refl

-- the least number over the largest: +0, and from the left π
vanishing : (atan2_of (bits 1) (bits 0x7fef_ffff_ffff_ffff) ≡ bits 0) × (atan2_of (bits 1) (bits 0xffef_ffff_ffff_ffff) ≡ pi)
unfolding atan2_of angle_of inside_of octant_index_of within_of moderate extreme_angle_of octant_at octants sign_of is_nan of_bits neg mul div lt le eq round size
vanishing = (refl, refl)
