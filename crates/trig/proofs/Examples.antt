-- Known values of the definitions: sine and cosine of angles whose values are in every table, by
-- their bits. Each is the binary64 number nearest to the exact sine or cosine of the binary64
-- angle, but for the sine of 1024, which is the next one. Assumes nothing.
use Prim.Native.Nat.{ℕ}
use mathlib.Core.Path.{◌≡◌, refl}
use lib.Ieee.{of_bits, to_bits, neg, add, sub, mul, eq, lt, le, sum, round, size}
use Rattle.floats.specs.Binary64.{bits}
use Rattle.floats.specs.Number.{sign_of}
use Rattle.trig.specs.Table.{row_of}
use Rattle.trig.specs.Trig.{reduced_of, bend_of, at_most_one, clamp_of, sum_of, sine_of, cosine_of, signed_of, sin_of, cos_of}

-- the angle, its sine and its cosine, by their bits
abbrev Known : ℕ → ℕ → ℕ → Type 0
Known x s c = (sin_of (bits x) ≡ bits s) × (cos_of (bits x) ≡ bits c)

known_values :
    -- 0
    Known 0 0 0x3ff0_0000_0000_0000 ×
    -- -0
    Known 0x8000_0000_0000_0000 0x8000_0000_0000_0000 0x3ff0_0000_0000_0000 ×
    -- the least number above 0
    Known 1 1 0x3ff0_0000_0000_0000 ×
    -- 1/2
    Known 0x3fe0_0000_0000_0000 0x3fde_aee8_744b_05f0 0x3fec_1528_065b_7d50 ×
    -- π/6: the angle is a little less, and so is its sine than 1/2
    Known 0x3fe0_c152_382d_7365 0x3fdf_ffff_ffff_ffff 0x3feb_b67a_e858_4cab ×
    -- π/4
    Known 0x3fe9_21fb_5444_2d18 0x3fe6_a09e_667f_3bcc 0x3fe6_a09e_667f_3bcd ×
    -- 1
    Known 0x3ff0_0000_0000_0000 0x3fea_ed54_8f09_0cee 0x3fe1_4a28_0fb5_068c ×
    -- -1
    Known 0xbff0_0000_0000_0000 0xbfea_ed54_8f09_0cee 0x3fe1_4a28_0fb5_068c ×
    -- π/2: the cosine is what the binary64 number lacks of π/2
    Known 0x3ff9_21fb_5444_2d18 0x3ff0_0000_0000_0000 0x3c91_a626_3314_5c07 ×
    -- π: the sine is what the binary64 number lacks of π
    Known 0x4009_21fb_5444_2d18 0x3ca1_a626_3314_5c07 0xbff0_0000_0000_0000 ×
    -- 2π
    Known 0x4019_21fb_5444_2d18 0xbcb1_a626_3314_5c07 0x3ff0_0000_0000_0000 ×
    -- 1024, the last in reach
    Known 0x4090_0000_0000_0000 0xbfc4_4ad2_614e_80ac 0x3fef_9866_9d7a_edb8 ×
    -- the next number past 1024
    Known 0x4090_0000_0000_0001 0x7ff8_0000_0000_0000 0x7ff8_0000_0000_0000 ×
    -- -∞
    Known 0xfff0_0000_0000_0000 0x7ff8_0000_0000_0000 0x7ff8_0000_0000_0000 ×
    -- NaN
    Known 0x7ff8_0000_0000_0000 0x7ff8_0000_0000_0000 0x7ff8_0000_0000_0000
unfolding sin_of cos_of signed_of sine_of cosine_of reduced_of row_of bend_of sum_of clamp_of at_most_one sign_of of_bits to_bits neg add sub mul eq lt le sum round size
known_values =
    ((refl, refl), (refl, refl), (refl, refl), (refl, refl), (refl, refl), (refl, refl), (refl, refl), (refl, refl), (refl, refl), (refl, refl), (refl, refl), (refl, refl), (refl, refl), (refl, refl), (refl, refl))
