-- A number's digits, in ASCII.
use Rattle.std.specs.Prelude.{ℕ, zero, suc, ◌+◌, ◌/◌, ◌%◌, ◌^◌, cond, List, [], ◌∷◌, ltb, leb}

-- `0` to `9`, then `a` to `f`
abbrev pub digit : ℕ → ℕ
digit d = cond (ltb d 10) (48 + d) (87 + d)

-- the last k digits of n in a base, the highest first: the digit worth base^(k - 1), then those
-- below it
unfoldable pub digits_of : ℕ → ℕ → ℕ → List ℕ
digits_of base zero n = []
digits_of base (suc k) n = digit (n / base ^ k % base) ∷ digits_of base k n

-- how many decimal digits n has, counted up to k + 1: the highest is not 0, and 0 has one
unfoldable pub places_of : ℕ → ℕ → ℕ
places_of zero n = 1
places_of (suc k) n = cond (leb (10 ^ suc k) n) (suc (suc k)) (places_of k n)

-- a number of 64 bits in decimal: at most 20 digits, no zero in front
unfoldable pub decimal_of : ℕ → List ℕ
decimal_of n = digits_of 10 (places_of 19 n) n

-- a number of 64 bits as 16 hexadecimal digits
unfoldable pub hex_of : ℕ → List ℕ
hex_of n = digits_of 16 16 n
