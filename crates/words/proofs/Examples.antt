-- Known values of the definitions. Assumes nothing.
use mathlib.Core.Path.{◌≡◌, refl}
use mathlib.Core.Bool.{true, false}
use mathlib.Core.List.{[], ◌∷◌}
use lib.Ieee.{nan, of_bits, to_bits, is_nan, size, of_fields}
use Rattle.floats.specs.Binary64.{bits}
use Rattle.words.specs.Words.{word32, word64, number_at, one_nan_at, le32, le64, le_number, put, put_of}

-- the lowest byte stands first, and what lies past the end reads as 0
word_in_order : (word32 (4 ∷ 3 ∷ 2 ∷ 1 ∷ []) 0 ≡ 0x0102_0304) × (word32 (4 ∷ 3 ∷ []) 1 ≡ 3) × (le32 0x0102_0304 ≡ 4 ∷ 3 ∷ 2 ∷ 1 ∷ [])
unfolding word32 le32
word_in_order = (refl, refl, refl)

-- 1.0 is 3ff0000000000000, and a NaN is written 7ff8000000000000
one_and_nan : (le_number (bits 0x3ff0_0000_0000_0000) ≡ 0 ∷ 0 ∷ 0 ∷ 0 ∷ 0 ∷ 0 ∷ 0xf0 ∷ 0x3f ∷ []) × (le_number nan ≡ 0 ∷ 0 ∷ 0 ∷ 0 ∷ 0 ∷ 0 ∷ 0xf8 ∷ 0x7f ∷ [])
unfolding le_number le64 le32 to_bits of_bits size
one_and_nan = (refl, refl)

-- "not given" is in rule; the NaNs 7ff8000000000001 and fff8000000000000 are not
nan_in_one_way :
    (one_nan_at (0 ∷ 0 ∷ 0 ∷ 0 ∷ 0 ∷ 0 ∷ 0xf8 ∷ 0x7f ∷ []) 0 ≡ true)
    × (one_nan_at (1 ∷ 0 ∷ 0 ∷ 0 ∷ 0 ∷ 0 ∷ 0xf8 ∷ 0x7f ∷ []) 0 ≡ false)
    × (one_nan_at (0 ∷ 0 ∷ 0 ∷ 0 ∷ 0 ∷ 0 ∷ 0xf8 ∷ 0xff ∷ []) 0 ≡ false)
unfolding one_nan_at number_at word64 word32 of_bits of_fields is_nan
nan_in_one_way = (refl, refl, refl)

-- a word is put where it fits, and nothing where it does not
where_it_fits : (put_of (9 ∷ 9 ∷ 9 ∷ 9 ∷ 9 ∷ []) 1 (le32 2) ≡ 9 ∷ 2 ∷ 0 ∷ 0 ∷ 0 ∷ []) × (put_of (9 ∷ 9 ∷ 9 ∷ 9 ∷ 9 ∷ []) 2 (le32 2) ≡ 9 ∷ 9 ∷ 9 ∷ 9 ∷ 9 ∷ [])
unfolding put_of put le32
where_it_fits = (refl, refl)
