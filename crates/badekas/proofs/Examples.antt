-- Known values: the worked example of IOGP 373-7-2, La Canoa to REGVEN, there and back; the pivot
-- itself as the fix; a fix of -0 through a pivot of +0; the units; and rules 5 and 6. Assumes
-- nothing.
use mathlib.Core.Path.{◌≡◌, refl}
use mathlib.Core.Bool.{true, false}
use Prim.Native.Nat.{ℕ}
use lib.Ieee.{nan, of_bits, add, sub, mul, div, neg, eq, ne, is_nan}
use Rattle.floats.specs.Binary64.{bits}
use Rattle.tuple.specs.declared.Tuple.{Tuple}
use Rattle.rotation.specs.declared.Vec3.{Vec3}
use Rattle.rotation.specs.Matrix.{first_order_of, rows_of, rotation_matrix_of}
use Rattle.helmert.specs.Units.{winner_of, lengths_of, angles_of, parameters_of}
use Rattle.helmert.specs.Rules.{some_of, rotated_of, dynamic_of, finite3_of, lacks_convention_of as helmert_lacks_convention_of}
use Rattle.helmert.specs.Apply.{offset_of, deoffset_of, forward_of, inverse_of, forward_about_of, inverse_about_of}
use Rattle.helmert.specs.Modes.{prepare_of, fixed_step_of, start_of, step_of}
use Rattle.badekas.specs.declared.Badekas.{Badekas}
use Rattle.badekas.specs.Record.{blank_badekas, helmert_of}
use Rattle.badekas.specs.Rules.{fields_in_rule_of, lacks_convention_of}
use Rattle.badekas.specs.Step.{about_of, shift_of}

there : Badekas → Tuple → Tuple
there r v = let shift = shift_of r in (step_of shift false (start_of shift) v).tuple

back : Badekas → Tuple → Tuple
back r v = let shift = shift_of r in (step_of shift true (start_of shift) v).tuple

three : ℕ → ℕ → ℕ → Vec3
three x y z = record { x = bits x; y = bits y; z = bits z }

-- ---- La Canoa to REGVEN, EPSG method 1034, coordinate frame

-- T -270.933, 115.599, -360.226 m; R -5.266, -1.238, 2.381 arcseconds; scale -5.109 ppm;
-- P 2464351.59, -5783466.61, 974809.81 m
la_canoa : Badekas
unfolding three
la_canoa =
    record {
      flags = 0;
      convention = 2;
      translation = three 0xc070_eeed_9168_72b0 0x405c_e656_0418_9375 0xc076_839d_b22d_0e56;
      rotation = three 0xc015_1062_4dd2_f1aa 0xbff3_ced9_1687_2b02 0x4003_0c49_ba5e_353f;
      scale = bits 0xc014_6f9d_b22d_0e56;
      pivot = three 0x4142_cd2f_cb85_1eb8 0xc156_0fea_a70a_3d71 0x412d_bfb3_9eb8_51ec;
    }

fix : ℕ → ℕ → ℕ → Tuple
fix x y z = record { x = bits x; y = bits y; z = bits z; t = nan }

-- X 2550408.96, Y -5749912.26, Z 1054891.11
old_place : Tuple
unfolding fix
old_place = fix 0x4143_7544_7ae1_47ae 0xc155_ef26_10a3_d70a 0x4130_18ab_1c28_f5c3

-- X 2550138.455, Y -5749799.870, Z 1054530.815, where the published figures are 2550138.45,
-- -5749799.87, 1054530.82
new_place : Tuple
unfolding fix
new_place = fix 0x4143_74bd_3a47_854d 0xc155_ef09_f7b3_2109 0x4130_1742_d0a3_cc7a

-- X 2550408.960033, Y -5749912.259981, Z 1054891.110083: the transpose of a small-angle matrix is
-- its inverse to first order
place_again : Tuple
unfolding fix
place_again = fix 0x4143_7544_7ae2_5cb9 0xc155_ef26_10a3_8898 0x4130_18ab_1c2e_6260

-- The pivot as the fix comes out as the pivot plus T, with no rotation left.
pivot_moved : Tuple
unfolding fix
pivot_moved = fix 0x4142_cca8_5418_9374 0xc156_0fcd_c0b4_3958 0x412d_bce3_2b02_0c4a

la_canoa_to_regven :
    (there la_canoa old_place ≡ new_place)
    × (back la_canoa new_place ≡ place_again)
    × (there la_canoa (fix 0x4142_cd2f_cb85_1eb8 0xc156_0fea_a70a_3d71 0x412d_bfb3_9eb8_51ec) ≡ pivot_moved)
unfolding three fix la_canoa there back old_place new_place place_again pivot_moved shift_of about_of helmert_of prepare_of parameters_of winner_of lengths_of angles_of rotated_of dynamic_of some_of start_of step_of fixed_step_of rotation_matrix_of first_order_of rows_of forward_about_of inverse_about_of of_bits neg add sub mul div eq ne is_nan
la_canoa_to_regven = (refl, refl, refl)

-- ---- why the premise is asked for: -0 through a pivot of +0

-- a record of zeros with these flags, convention, X translation, X angle and X pivot
along_x : ℕ → ℕ → ℕ → ℕ → ℕ → Badekas
unfolding three
along_x flags convention t r p =
    record {
      flags = flags;
      convention = convention;
      translation = three t 0x8000_0000_0000_0000 0;
      rotation = three r 0 0;
      scale = bits 0;
      pivot = three p 0 0;
    }

-- Y is -0 and so is its translation: about a pivot of +0 it becomes +0, where Helmert leaves -0. Z
-- is -0 and its translation is +0: +0 both ways. Back, Z is -0 less +0, which is -0, and the pivot
-- makes it +0.
minus_zero_lem :
    (there (along_x 0 0 0 0 0) (fix 0 0x8000_0000_0000_0000 0x8000_0000_0000_0000) ≡ fix 0 0 0)
    × ((step_of (prepare_of (helmert_of (along_x 0 0 0 0 0))) false (start_of (shift_of (along_x 0 0 0 0 0))) (fix 0 0x8000_0000_0000_0000 0x8000_0000_0000_0000)).tuple
    ≡ fix 0 0x8000_0000_0000_0000 0)
    × (back (along_x 0 0 0 0 0) (fix 0 0 0x8000_0000_0000_0000) ≡ fix 0 0 0)
    × ((step_of (prepare_of (helmert_of (along_x 0 0 0 0 0))) true (start_of (shift_of (along_x 0 0 0 0 0))) (fix 0 0 0x8000_0000_0000_0000)).tuple
    ≡ fix 0 0 0x8000_0000_0000_0000)
unfolding three fix along_x there back shift_of about_of helmert_of prepare_of parameters_of winner_of lengths_of angles_of rotated_of dynamic_of some_of start_of step_of fixed_step_of rotation_matrix_of first_order_of rows_of forward_of inverse_of offset_of deoffset_of forward_about_of inverse_about_of of_bits neg add sub mul div eq ne is_nan
minus_zero_lem = (refl, refl, refl, refl)

-- ---- units: mm scales the translation and not the pivot

-- 1000 with flag 4 is a metre of translation; the pivot stays 1000 m
millimetres : let q = shift_of (along_x 4 0 0x408f_4000_0000_0000 0 0x408f_4000_0000_0000) in
    (q.parameters.t.x ≡ bits 0x3ff0_0000_0000_0000) × (q.pivot.x ≡ bits 0x408f_4000_0000_0000)
unfolding three along_x shift_of about_of helmert_of prepare_of parameters_of winner_of lengths_of angles_of rotated_of dynamic_of some_of of_bits add mul div eq ne is_nan
millimetres = (refl, refl)

-- ---- rules 5 and 6

rules :
    (fields_in_rule_of blank_badekas ≡ true)
    × (lacks_convention_of blank_badekas ≡ false)
    -- flag 8 is no flag of this kind, and 3 is no convention
    × (fields_in_rule_of (along_x 7 2 0 0 0) ≡ true)
    × (fields_in_rule_of (along_x 8 2 0 0 0) ≡ false)
    × (fields_in_rule_of (along_x 0 3 0 0 0) ≡ false)
    -- a pivot that is infinite
    × (fields_in_rule_of (along_x 0 0 0 0 0x7ff0_0000_0000_0000) ≡ false)
    -- an angle with no convention, and with one
    × (lacks_convention_of (along_x 0 0 0 0x3ff0_0000_0000_0000 0) ≡ true)
    × (lacks_convention_of (along_x 0 1 0 0x3ff0_0000_0000_0000 0) ≡ false)
unfolding three along_x fields_in_rule_of finite3_of lacks_convention_of helmert_lacks_convention_of helmert_of parameters_of winner_of lengths_of angles_of rotated_of some_of of_bits add mul div eq ne
rules = (refl, refl, refl, refl, refl, refl, refl, refl)
