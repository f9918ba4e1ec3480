-- Document 01's marked points of the chain, P1 to P5 and P7 to P12: each a sheet's bytes, a list
-- and the outcome of a call. P6 is of the kept run (kept, MarkedPoints), and the text that the
-- program prints for P1 is the program's (answer, MarkedPoints); the table of all is in points.
use Rattle.std.specs.Prelude.{◌≡◌, true, false, List, [], ◌∷◌, ◌++◌, ℕ, take, replicate, Float}
use Rattle.std.specs.Float.{nan}
use Rattle.floats.specs.Binary64.{bits, ◌⊖◌}
use Rattle.ellipsoid.specs.Figure.{named_of}
use Rattle.geocart.specs.Geocart.{half_pi}
use Rattle.words.specs.Words.{le32}
use Rattle.sheet.specs.Rules.{of_call, of_step}
use Rattle.tally.specs.declared.Tally.{Tally}
use Rattle.tally.specs.Tallies.{no_tally}
use Rattle.chain.specs.Rules.{outcome, refused_answer, ran_answer, shift_of}

-- ---- sheets and lists to look at

-- a sheet's bytes, given as words
unfoldable pub bytes : List ℕ → List ℕ
bytes [] = []
bytes (w ∷ ws) = le32 w ++ bytes ws

-- P1's sheet: GRS80 cart
unfoldable pub p1 : List ℕ
p1 = bytes (1 ∷ 40 ∷ 1 ∷ 16 ∷ 2 ∷ 0 ∷ 32 ∷ 8 ∷ 1 ∷ 0 ∷ [])

-- a Helmert sheet with these flags and the upper words of dx, rx and t_epoch (7ff80000: not given);
-- all else zero, no t_obs
unfoldable pub helmert_sheet : ℕ → ℕ → ℕ → ℕ → List ℕ
helmert_sheet flags dx rx epoch =
    bytes
    (1 ∷ 280 ∷ 1 ∷ 16 ∷ 1 ∷ 0 ∷ 32 ∷ 248 ∷ flags ∷ 0
    ∷ 0 ∷ 0 ∷ 0 ∷ 0 ∷ 0 ∷ 0 ∷ 0 ∷ 0 ∷ 0 ∷ 0
    ∷ 0 ∷ 0 ∷ 0 ∷ 0 ∷ 0 ∷ 0 ∷ 0 ∷ 0 ∷ 0 ∷ dx
    ∷ 0 ∷ 0 ∷ 0 ∷ 0 ∷ 0 ∷ 0 ∷ 0 ∷ 0 ∷ 0 ∷ 0
    ∷ 0 ∷ rx ∷ 0 ∷ 0 ∷ 0 ∷ 0 ∷ 0 ∷ 0 ∷ 0 ∷ 0
    ∷ 0 ∷ 0 ∷ 0 ∷ 0 ∷ 0 ∷ 0 ∷ 0 ∷ 0 ∷ 0 ∷ 0
    ∷ 0 ∷ 0 ∷ 0 ∷ 0 ∷ 0 ∷ 0 ∷ 0 ∷ epoch ∷ 0 ∷ 0x7ff80000 ∷ [])

-- P9's sheet: Molodensky, full form, GRS80, nothing moved
unfoldable pub p9 : List ℕ
p9 = bytes (1 ∷ 88 ∷ 1 ∷ 16 ∷ 3 ∷ 0 ∷ 32 ∷ 56 ∷ 0 ∷ 1 ∷ 0 ∷ 0 ∷ 0 ∷ 0 ∷ 0 ∷ 0 ∷ 0 ∷ 0 ∷ 0 ∷ 0 ∷ 0 ∷ 0 ∷ [])

-- P10's sheet: permtide, GRS80, to mean from zero, k = 0.3
unfoldable pub p10 : List ℕ
p10 = bytes (1 ∷ 56 ∷ 1 ∷ 16 ∷ 4 ∷ 0 ∷ 32 ∷ 24 ∷ 1 ∷ 1 ∷ 2 ∷ 0 ∷ 0x33333333 ∷ 0x3fd33333 ∷ [])

-- a fix at the origin at each time
unfoldable pub fixes : List Float → List Float
fixes [] = []
fixes (time ∷ times) = bits 0 ∷ bits 0 ∷ bits 0 ∷ time ∷ fixes times

-- X of each fix
unfoldable pub xs : List Float → List Float
xs (x ∷ y ∷ z ∷ t ∷ l) = x ∷ xs l
xs (x ∷ y ∷ z ∷ []) = []
xs (x ∷ y ∷ []) = []
xs (x ∷ []) = []
xs [] = []

unfoldable pub one : Float
one = bits 0x3ff0_0000_0000_0000

unfoldable pub y2001 : Float
y2001 = bits 0x409f_4400_0000_0000

unfoldable pub y2002 : Float
y2002 = bits 0x409f_4800_0000_0000

-- DT = (1, 0, 0), t_epoch 2000, in running mode or with the own-epoch flag: the resulting X of
-- fixes at these times
unfoldable pub shifted_x : ℕ → List Float → List Float
shifted_x flags times = xs (shift_of false (helmert_sheet flags 0x3ff00000 0 0x409f4000) (fixes times) [] []).list

-- the tallies of a sheet of one step that counts n tuples, none of which meets an angle out of reach
unfoldable pub only : ℕ → List Tally
only n = record { count = n; met = 0 } ∷ replicate 15 no_tally

-- ---- the table

abbrev pub OfTheChain : Type 0
OfTheChain =
    -- P1: forward on (0, 0, 0, 0)
    (shift_of false p1 (fixes (bits 0 ∷ [])) [] []
    ≡ outcome (ran_answer (only 1)) (bits 0x4158_54a6_4000_0000 ∷ bits 0 ∷ bits 0 ∷ bits 0 ∷ []))
    -- P2: times 2001, 2002, 2001 running
    × (shifted_x 0 (y2001 ∷ y2002 ∷ y2001 ∷ []) ≡ one ∷ bits 0x4008_0000_0000_0000 ∷ bits 0x4010_0000_0000_0000 ∷ [])
    -- P3: own-epoch
    × (shifted_x 8 (y2001 ∷ y2002 ∷ y2001 ∷ []) ≡ one ∷ bits 0x4000_0000_0000_0000 ∷ one ∷ [])
    -- P4: 2001, 2001 running
    × (shifted_x 0 (y2001 ∷ y2001 ∷ []) ≡ one ∷ one ∷ [])
    -- P5: 2001, NaN, 2001 running
    × (shifted_x 0 (y2001 ∷ nan ∷ y2001 ∷ []) ≡ one ∷ nan ∷ nan ∷ [])
    -- P7: P1's sheet cut by a byte
    × (shift_of false (take 39 p1) (fixes (bits 0 ∷ [])) [] [] ≡ outcome (refused_answer (of_call 1)) (fixes (bits 0 ∷ [])))
    -- P8: cart inverse (0, 0, 7000000, 0): h = 7000000 - b, count 0
    × (shift_of true p1 (bits 0 ∷ bits 0 ∷ bits 0x415a_b3f0_0000_0000 ∷ bits 0 ∷ []) [] []
    ≡ outcome (ran_answer (only 0)) (bits 0 ∷ half_pi ∷ (bits 0x415a_b3f0_0000_0000 ⊖ (named_of 1).b) ∷ bits 0 ∷ []))
    -- P9: full Molodensky GRS80, φ = 0, h = -6378137: NaNs, count 1
    × (shift_of false p9 (bits 0 ∷ bits 0 ∷ bits 0xc158_54a6_4000_0000 ∷ bits 0 ∷ []) [] []
    ≡ outcome (ran_answer (only 1)) (nan ∷ nan ∷ nan ∷ bits 0 ∷ []))
    -- P10: zero to mean, φ = h = 0: 0.099
    × (shift_of false p10 (fixes (bits 0 ∷ [])) [] []
    ≡ outcome (ran_answer (only 1)) (bits 0 ∷ bits 0 ∷ bits 0x3fb9_5810_624d_d2f2 ∷ bits 0 ∷ []))
    -- P11: rx = 1, no convention
    × (shift_of false (helmert_sheet 0 0 0x3ff00000 0x7ff80000) [] [] [] ≡ outcome (refused_answer (of_step 6 0)) [])
    -- P12: dx = 1, no epoch
    × (shift_of false (helmert_sheet 0 0x3ff00000 0 0x7ff80000) [] [] [] ≡ outcome (refused_answer (of_step 7 0)) [])

-- ---- document 02, A3: own-epoch, times 2001, NaN, 2001. The fix without a time is three NaNs, its
-- time kept, and two are counted.

abbrev pub MissingTime : Type 0
MissingTime =
    shift_of false (helmert_sheet 8 0x3ff00000 0 0x409f4000) (fixes (y2001 ∷ nan ∷ y2001 ∷ [])) [] []
    ≡ outcome (ran_answer (only 2))
    (one ∷ bits 0 ∷ bits 0 ∷ y2001 ∷ nan ∷ nan ∷ nan ∷ nan ∷ one ∷ bits 0 ∷ bits 0 ∷ y2001 ∷ [])
