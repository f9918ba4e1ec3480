-- Little-endian words and numbers in a list of bytes, read and put. A byte past the end of a list
-- reads as 0.
use Rattle.std.specs.Prelude.{ℕ, ◌+◌, ◌*◌, ◌/◌, ◌%◌, ◌<◌, Bool, true, cond, List, [], ◌∷◌, ◌++◌, eqb, leb, get_or, length, take, drop, Float}
use Rattle.std.specs.Float.{binary64}
use Rattle.std.specs.Float.Ieee.{to_bits, is_nan}
use Rattle.floats.specs.Binary64.{bits}

-- every element is a byte
abbrev pub Bytes : List ℕ → Type 0
Bytes s = (i : ℕ) → get_or s i 0 < 256

-- ---- reading

-- the four bytes from a place on, the lowest first
unfoldable pub word32 : List ℕ → ℕ → ℕ
word32 s at = get_or s at 0 + 256 * (get_or s (at + 1) 0 + 256 * (get_or s (at + 2) 0 + 256 * get_or s (at + 3) 0))

-- the eight bytes from a place on, the lowest first
unfoldable pub word64 : List ℕ → ℕ → ℕ
word64 s at = word32 s at + 0x1_0000_0000 * word32 s (at + 4)

-- the binary64 number whose 64 bits stand at a place
unfoldable pub number_at : List ℕ → ℕ → Float
number_at s at = bits (word64 s at)

-- A NaN is written 7ff8000000000000, "not given", and in no other way.
unfoldable pub one_nan_at : List ℕ → ℕ → Bool
one_nan_at s at = cond (is_nan (number_at s at)) (eqb (word64 s at) 0x7ff8_0000_0000_0000) true

-- ---- writing

-- the four bytes of a word, the lowest first
unfoldable pub le32 : ℕ → List ℕ
le32 n = n % 256 ∷ n / 256 % 256 ∷ n / 256 / 256 % 256 ∷ n / 256 / 256 / 256 % 256 ∷ []

-- the eight bytes of a double word, the lowest first
unfoldable pub le64 : ℕ → List ℕ
le64 n = le32 (n % 0x1_0000_0000) ++ le32 (n / 0x1_0000_0000)

-- the eight bytes of a binary64 number; a NaN's are those of 7ff8000000000000
unfoldable pub le_number : Float → List ℕ
le_number x = le64 (to_bits binary64 x)

-- l with bs from a place on
unfoldable pub put : List ℕ → ℕ → List ℕ → List ℕ
put l at bs = take at l ++ bs ++ drop (at + length bs) l

-- l with bs from a place on, and l as it is where bs do not fit
unfoldable pub put_of : List ℕ → ℕ → List ℕ → List ℕ
put_of l at bs = cond (leb (at + length bs) (length l)) (put l at bs) l
