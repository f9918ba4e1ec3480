-- Known values of `cartesian` and `geographic`: exact ones on the axes, a published one, and the
-- listed difference. Assumes nothing.
use mathlib.Core.Path.{◌≡◌, refl}
use mathlib.Core.Bool.{Bool, true, ◌&&◌}
use lib.Ieee.{Float, nan, of_bits, to_bits, neg, add, sub, mul, div, lt, le, eq, is_nan, sum, round, size}
use Rattle.floats.specs.Binary64.{bits, ◌⊖◌}
use Rattle.floats.specs.Number.{sign_of}
use Rattle.root.specs.Sqrt.{sqrt_of}
use Rattle.trig.specs.Table.{row_of}
use Rattle.trig.specs.Trig.{reduced_of, bend_of, at_most_one, clamp_of, sum_of, sine_of, cosine_of, signed_of, sin_of, cos_of}
use Rattle.arctan.specs.Table.{cells, cell_at, octants, octant_at}
use Rattle.arctan.specs.Arctan.{tail_of, head_of, small_angle_of, cut_angle_of, cell_index_of, small, quotient_angle_of, moderate, scale_of, extreme_angle_of, within_of, octant_index_of, inside_of, along_of, diagonal_of, angle_of, atan2_of}
use Rattle.hypot.specs.Hypot.{infinite, larger, smaller, squares_of, ordinary, guess_of, reciprocal_root_of, root_of, scaled_root_of, rescaled_of, length_of, bounded_of, hypot_of}
use Rattle.tuple.specs.declared.Tuple.{Tuple}
use Rattle.ellipsoid.specs.Figure.{ellipsoid_of, named_of, w_of, prime_vertical_of}
use Rattle.geocart.specs.Geocart.{cartesian_of, pole_of, pole_height_of, bowring_of, bowring_height_of, geographic_of, half_pi}

at : Float → Float → Float → Float → Tuple
at x y z t = record { x = x; y = y; z = z; t = t }

-- longitude 0, latitude 0, height 0 on GRS80 is the semimajor axis along X
origin_of_the_chart : cartesian_of (named_of 1) (at (bits 0) (bits 0) (bits 0) (bits 0)) ≡ at (bits 0x4158_54a6_4000_0000) (bits 0) (bits 0) (bits 0)
unfolding at cartesian_of geographic_of pole_of pole_height_of bowring_of bowring_height_of named_of ellipsoid_of prime_vertical_of w_of sqrt_of sin_of cos_of signed_of sine_of cosine_of reduced_of row_of bend_of sum_of clamp_of at_most_one atan2_of angle_of inside_of octant_index_of within_of extreme_angle_of moderate scale_of quotient_angle_of small small_angle_of head_of cell_index_of cell_at cells octant_at octants cut_angle_of tail_of along_of diagonal_of hypot_of length_of bounded_of infinite larger smaller squares_of ordinary guess_of reciprocal_root_of root_of scaled_root_of rescaled_of sign_of is_nan of_bits to_bits neg add sub mul div lt le eq sum round size
origin_of_the_chart = refl

-- WGS84, 53°48'33.820"N 2°07'46.380"E, 73 m: the example of IOGP 373-7-2, to half a millimetre
-- either way
between : Float → Float → Float → Bool
between low x high = le low x && le x high

-- X 3771793.968, Y 140253.342, Z 5124304.349
as_published : Tuple → Bool
as_published v =
    between (bits 0x414c_c6c8_fbd7_0a3d) v.x (bits 0x414c_c6c8_fbf7_ced9)
    && between (bits 0x4101_1eea_bb64_5a1d) v.y (bits 0x4101_1eea_bd70_a3d7)
    && between (bits 0x4153_8c34_164d_d2f2) v.z (bits 0x4153_8c34_165e_353f)

published :
    as_published (cartesian_of (named_of 2) (at (bits 0x3fa3_07a3_b07c_33c9) (bits 0x3fee_0d86_9c66_77fe) (bits 0x4052_4000_0000_0000) (bits 0))) ≡ true
unfolding as_published between at cartesian_of geographic_of pole_of pole_height_of bowring_of bowring_height_of named_of ellipsoid_of prime_vertical_of w_of sqrt_of sin_of cos_of signed_of sine_of cosine_of reduced_of row_of bend_of sum_of clamp_of at_most_one atan2_of angle_of inside_of octant_index_of within_of extreme_angle_of moderate scale_of quotient_angle_of small small_angle_of head_of cell_index_of cell_at cells octant_at octants cut_angle_of tail_of along_of diagonal_of hypot_of length_of bounded_of infinite larger smaller squares_of ordinary guess_of reciprocal_root_of root_of scaled_root_of rescaled_of sign_of is_nan of_bits to_bits neg add sub mul div lt le eq sum round size
published = refl

-- on the axis: a pole's latitude with the sign of Z, |Z| - b above the ellipsoid; at (0, 0, -0) it
-- is the south pole's
north_of_the_pole : geographic_of (named_of 1) (at (bits 0) (bits 0) (bits 0x415a_b3f0_0000_0000) (bits 0)) ≡ at (bits 0) half_pi (bits 0x415a_b3f0_0000_0000 ⊖ (named_of 1).b) (bits 0)
unfolding at cartesian_of geographic_of pole_of pole_height_of bowring_of bowring_height_of named_of ellipsoid_of prime_vertical_of w_of sqrt_of sin_of cos_of signed_of sine_of cosine_of reduced_of row_of bend_of sum_of clamp_of at_most_one atan2_of angle_of inside_of octant_index_of within_of extreme_angle_of moderate scale_of quotient_angle_of small small_angle_of head_of cell_index_of cell_at cells octant_at octants cut_angle_of tail_of along_of diagonal_of hypot_of length_of bounded_of infinite larger smaller squares_of ordinary guess_of reciprocal_root_of root_of scaled_root_of rescaled_of sign_of is_nan of_bits to_bits neg add sub mul div lt le eq sum round size
north_of_the_pole = refl

-- the listed difference: a NaN Z on the axis has no hemisphere
no_hemisphere : (geographic_of (named_of 1) (at (bits 0) (bits 0) nan (bits 0))).y ≡ nan
unfolding at cartesian_of geographic_of pole_of pole_height_of bowring_of bowring_height_of named_of ellipsoid_of prime_vertical_of w_of sqrt_of sin_of cos_of signed_of sine_of cosine_of reduced_of row_of bend_of sum_of clamp_of at_most_one atan2_of angle_of inside_of octant_index_of within_of extreme_angle_of moderate scale_of quotient_angle_of small small_angle_of head_of cell_index_of cell_at cells octant_at octants cut_angle_of tail_of along_of diagonal_of hypot_of length_of bounded_of infinite larger smaller squares_of ordinary guess_of reciprocal_root_of root_of scaled_root_of rescaled_of sign_of is_nan of_bits to_bits neg add sub mul div lt le eq sum round size
no_hemisphere = refl
