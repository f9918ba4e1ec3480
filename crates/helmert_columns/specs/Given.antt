-- How many times of a column are given.
use Rattle.std.specs.Prelude.{ℕ, ◌+◌, not, cond, List, [], ◌∷◌, Float}
use Rattle.std.specs.Float.Ieee.{is_nan}

unfoldable pub given_of : List Float → ℕ
given_of (t ∷ ts) = cond (not (is_nan t)) 1 0 + given_of ts
given_of [] = 0
