-- Working definitions of rule 18's code; no rule cites them. A pattern of 64 bits is a finite
-- number's just where both it and the pattern with the sign turned lie below -infinity's pattern,
-- so of many patterns it is enough to know the largest of all these.
use Rattle.std.specs.Prelude.{ℕ, ◌+◌, ◌-◌, Bool, cond, ◌&&◌, List, ltb}
use Rattle.std.specs.Float.Ieee.Scale.{finite}
use Rattle.words.specs.Words.{number_at}

-- -infinity's pattern lies above
abbrev pub below_infinity : ℕ → Bool
below_infinity p = ltb p 0xfff0_0000_0000_0000

unfoldable pub larger_of : ℕ → ℕ → ℕ
larger_of a b = cond (ltb a b) b a

unfoldable pub sign_turned : ℕ → ℕ
sign_turned p = cond (ltb p 0x8000_0000_0000_0000) (p + 0x8000_0000_0000_0000) (p - 0x8000_0000_0000_0000)

unfoldable pub largest_of : ℕ → ℕ → ℕ → ℕ → ℕ → ℕ → ℕ → ℕ → ℕ
largest_of p q r s t u v w =
    larger_of (larger_of (larger_of p q) (larger_of r s)) (larger_of (larger_of t u) (larger_of v w))

unfoldable pub worst_of : ℕ → ℕ → ℕ → ℕ → ℕ → ℕ → ℕ → ℕ → ℕ
worst_of p q r s t u v w =
    larger_of (largest_of p q r s t u v w)
    (largest_of (sign_turned p) (sign_turned q) (sign_turned r) (sign_turned s) (sign_turned t) (sign_turned u) (sign_turned v) (sign_turned w))

-- the eight numbers from the first byte on are finite
unfoldable pub eight_finite : List ℕ → Bool
eight_finite b =
    ((finite (number_at b 0) && finite (number_at b 8)) && (finite (number_at b 16) && finite (number_at b 24)))
    && ((finite (number_at b 32) && finite (number_at b 40)) && (finite (number_at b 48) && finite (number_at b 56)))
