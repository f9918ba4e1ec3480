-- The constants of atan2: a cut and its arctangent for each cell of the quotient, and for each
-- octant the angle from which it counts.
use Rattle.std.specs.Prelude.{ℕ, List, [], ◌∷◌, get_or, Float}
use Rattle.floats.specs.Binary64.{bits}
use Rattle.arctan.specs.declared.Cell.{Cell}
use Rattle.arctan.specs.declared.Octant.{Octant}

-- π/4, π/2, 3π/4 and π, each rounded
abbrev pub quarter_pi : Float
quarter_pi = bits 0x3fe9_21fb_5444_2d18

abbrev pub half_pi : Float
half_pi = bits 0x3ff9_21fb_5444_2d18

abbrev pub three_quarter_pi : Float
three_quarter_pi = bits 0x4002_d97c_7f33_21d2

abbrev pub pi : Float
pi = bits 0x4009_21fb_5444_2d18

-- a cut in two parts of one binary digit each, and its arctangent in two parts, the first a
-- multiple of 2⁻⁵⁰
abbrev pub row : ℕ → ℕ → ℕ → ℕ → Cell
row coarse fine angle rest = record { coarse = bits coarse; fine = bits fine; angle = bits angle; rest = bits rest }

-- the cells, four to a halving of the quotient, from 1 downwards
unfoldable pub cells : List Cell
cells =
    row 0x3ff0_0000_0000_0000 0xbfc0_0000_0000_0000 0x3fe7_00a7_c578_4630 0x3cbe_73cb_2da5_5211 ∷
    row 0x3ff0_0000_0000_0000 0xbfd0_0000_0000_0000 0x3fe4_978f_a326_9ee0 0x3ca2_4833_50fe_548b ∷
    row 0x3fe0_0000_0000_0000 0x3fc0_0000_0000_0000 0x3fe1_e00b_abde_feb0 0x3cbf_9b5c_835e_1666 ∷
    row 0x3fe0_0000_0000_0000 0x3fb0_0000_0000_0000 0x3fe0_657e_94db_30d0 0xbc7d_5b49_5f63_49e6 ∷
    row 0x3fe0_0000_0000_0000 0xbfb0_0000_0000_0000 0x3fda_64ee_c3cc_2400 0xbcaa_49bd_836a_1700 ∷
    row 0x3fd0_0000_0000_0000 0x3fc0_0000_0000_0000 0x3fd6_f619_41e4_def0 0x3c81_ce2a_8c84_8b74 ∷
    row 0x3fd0_0000_0000_0000 0x3fb0_0000_0000_0000 0x3fd3_6277_3707_ebd0 0xbcb0_cb1d_2a25_b397 ∷
    row 0x3fd0_0000_0000_0000 0x3fa0_0000_0000_0000 0x3fd1_8bf5_a30b_f180 0xbcbf_679a_dc5b_a720 ∷
    row 0x3fd0_0000_0000_0000 0xbfa0_0000_0000_0000 0x3fcb_90d7_5292_60a0 0x3c90_22f6_21a5_c1cb ∷
    row 0x3fd0_0000_0000_0000 0xbfb0_0000_0000_0000 0x3fc7_b97b_4bce_5b00 0x3c91_347b_0b4f_881d ∷
    row 0x3fc0_0000_0000_0000 0x3fa0_0000_0000_0000 0x3fc3_d6ee_e8c6_6260 0x3cb8_b0d1_d867_4941 ∷
    row 0x3fc0_0000_0000_0000 0x3f90_0000_0000_0000 0x3fc1_e1fa_fb04_3720 0x3cab_92de_9bac_94c2 ∷
    row 0x3fc0_0000_0000_0000 0xbf90_0000_0000_0000 0x3fbb_e39e_be6f_07c0 0x3c8b_ef71_e534_0b31 ∷
    row 0x3fb0_0000_0000_0000 0x3fa0_0000_0000_0000 0x3fb7_ee18_2602_f100 0x3cad_1824_d59f_9e13 ∷
    row 0x3fb0_0000_0000_0000 0x3f90_0000_0000_0000 0x3fb3_f59f_0e7c_5580 0x3cbd_6b13_38a1_77e1 ∷
    row 0x3fb0_0000_0000_0000 0x3f80_0000_0000_0000 0x3fb1_f86d_bf08_2d40 0x3cb8_ded4_4711_9a21 ∷
    []

-- below the last cell nothing is cut off
unfoldable pub cell_at : ℕ → Cell
cell_at i = get_or cells i (row 0 0 0 0)

-- The angle from which an octant counts, in two parts; +1 where the quotient's angle is added to it
-- and -1 where it is taken away; and the angles between which the octant lies.
abbrev pub octant : ℕ → ℕ → ℕ → ℕ → ℕ → Octant
octant base rest side low high = record { base = bits base; rest = bits rest; side = bits side; low = bits low; high = bits high }

-- by whether |y| is above |x|, and then by whether x is negative: from 0 up to π/4, from π/2 down
-- to π/4, from π down to 3π/4, from π/2 up to 3π/4
unfoldable pub octants : List Octant
octants =
    octant 0 0 0x3ff0_0000_0000_0000 0 0x3fe9_21fb_5444_2d18 ∷
    octant 0x3ff9_21fb_5444_2d18 0x3c91_a626_3314_5c07 0xbff0_0000_0000_0000 0x3fe9_21fb_5444_2d18 0x3ff9_21fb_5444_2d18 ∷
    octant 0x4009_21fb_5444_2d18 0x3ca1_a626_3314_5c07 0xbff0_0000_0000_0000 0x4002_d97c_7f33_21d2 0x4009_21fb_5444_2d18 ∷
    []

unfoldable pub octant_at : ℕ → Octant
octant_at k = get_or octants k (octant 0x3ff9_21fb_5444_2d18 0x3c91_a626_3314_5c07 0x3ff0_0000_0000_0000 0x3ff9_21fb_5444_2d18 0x4002_d97c_7f33_21d2)
