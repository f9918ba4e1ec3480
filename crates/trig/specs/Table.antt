-- The one table of sine and cosine: a quarter of the circle, from which the whole circle in 64
-- steps follows by its symmetries.
use Rattle.std.specs.Prelude.{ℕ, ◌+◌, ◌-◌, ◌%◌, cond, List, [], ◌∷◌, leb, ltb, get_or, Float}
use Rattle.std.specs.Float.Ieee.{neg}
use Rattle.floats.specs.Binary64.{bits}
use Rattle.trig.specs.declared.Row.{Row}

-- a value in two parts: the binary64 number nearest to it, and the number nearest to what that
-- leaves
pub record Entry : Type 0 where
  pub high : Float
  pub low : Float

-- an entry by the bits of its parts
abbrev pub entry : ℕ → ℕ → Entry
entry high low = record { high = bits high; low = bits low }

-- the entry of the opposite value
abbrev pub turned : Entry → Entry
turned e = record { high = neg e.high; low = neg e.low }

-- sin(2πj/64) for j = 0 to 16
abbrev pub quarter : List Entry
quarter =
    entry 0x0000_0000_0000_0000 0x0000_0000_0000_0000
    ∷ entry 0x3fb9_17a6_bc29_b42c 0xbc3e_2718_d26e_d688
    ∷ entry 0x3fc8_f8b8_3c69_a60b 0xbc62_6d19_b9ff_8d82
    ∷ entry 0x3fd2_9406_2ed5_9f06 0xbc75_d28d_a2c4_612d
    ∷ entry 0x3fd8_7de2_a6ae_a963 0xbc67_2ced_d3d5_a610
    ∷ entry 0x3fde_2b5d_3806_f63b 0x3c5e_0d89_1d3c_6841
    ∷ entry 0x3fe1_c73b_39ae_68c8 0x3c8b_25dd_267f_6600
    ∷ entry 0x3fe4_4cf3_2509_1dd6 0x3c68_076a_2cfd_c6b3
    ∷ entry 0x3fe6_a09e_667f_3bcd 0xbc8b_dd34_13b2_6456
    ∷ entry 0x3fe8_bc80_6b15_1741 0xbc82_c5e1_2ed1_336d
    ∷ entry 0x3fea_9b66_290e_a1a3 0x3c39_f630_e8b6_dac8
    ∷ entry 0x3fec_38b2_f180_bdb1 0xbc76_e0b1_757c_8d07
    ∷ entry 0x3fed_906b_cf32_8d46 0x3c74_57e6_1023_1ac2
    ∷ entry 0x3fee_9f41_56c6_2dda 0x3c87_60b1_e2e3_f81e
    ∷ entry 0x3fef_6297_cff7_5cb0 0x3c75_6217_2a36_1fd3
    ∷ entry 0x3fef_d88d_a3d1_2526 0xbc88_7df6_3788_11c7
    ∷ entry 0x3ff0_0000_0000_0000 0x0000_0000_0000_0000
    ∷ []

-- its entry j, for j up to 16
abbrev pub quarter_at : ℕ → Entry
quarter_at j = get_or quarter j (entry 0 0)

-- sin(2πi/64) for i = 0 to 63: sin(π - A) = sin A and sin(π + A) = -sin A
abbrev pub sine_at : ℕ → Entry
sine_at i =
    cond (leb i 16) (quarter_at i)
    (cond (leb i 32) (quarter_at (32 - i)) (cond (leb i 48) (turned (quarter_at (i - 32))) (turned (quarter_at (64 - i)))))

-- cos A = sin(A + π/2)
abbrev pub cosine_at : ℕ → Entry
cosine_at i = sine_at ((i + 16) % 64)

-- The row of step i, for i below 64: sine, its rest, cosine, its rest.
abbrev pub row_at : ℕ → Row
row_at i = record { 0 = (sine_at i).high; 1 = (sine_at i).low; 2 = (cosine_at i).high; 3 = (cosine_at i).low }

-- The row of any step k: steps k and k + 64 are the same.
unfoldable pub row_of : ℕ → Row
row_of k = row_at (k % 64)

-- ---- the same row from the first half of the circle

-- how far step i, below 64, is from 0, either way round
unfoldable pub aside_of : ℕ → ℕ
aside_of i = cond (ltb i 32) i (64 - i)

-- the rows 0 to 32, and the last of them past it
unfoldable pub half_of : ℕ → Row
half_of d = row_at (cond (ltb d 32) d 32)
