-- What the functions inside promise one another: roots of whole numbers, and the digits of a
-- number.
use Rattle.std.specs.Prelude.{◌≡◌, ℕ, ◌+◌, ◌-◌, ◌*◌, ◌^◌, ◌<◌, ◌≤◌, false, from_bits}
use Rattle.std.specs.Float.{binary64}
use Rattle.std.specs.Float.Ieee.Exact.{HasValue}

-- r is the whole part of the root of n
pub record WholeRoot (n r : ℕ) : Type 0 where
  pub low : r * r ≤ n
  pub high : n < (r + 1) * (r + 1)

-- r is the whole number nearest to the root of n: n lies strictly between the squares of the
-- midpoints r - 1/2 and r + 1/2, all taken four times. No root of a whole number is a midpoint,
-- since (2 r + 1)² is odd: there are no ties.
pub record NearestRoot (n r : ℕ) : Type 0 where
  pub above : (2 * r - 1) * (2 * r - 1) < 4 * n
  pub below : 4 * n < (2 * r + 1) * (2 * r + 1)

-- g has 53 digits, as a root and a guess at one has
abbrev pub Digits : ℕ → Type 0
Digits g = (2 ^ 52 ≤ g) × (g < 2 ^ 53)

-- The number with the bits b is n units of 2 ^ -1074, which are a * 2 ^ 52 * 4 ^ k units of 2 ^
-- -2148, so that the root of a * 2 ^ 52 has 53 digits.
pub record Significand (b a k : ℕ) : Type 0 where
  pub n : ℕ
  pub value : HasValue (from_bits binary64 b) false n (2 ^ 1074)
  pub same : a * 2 ^ 52 * (2 ^ k * 2 ^ k) ≡ n * 2 ^ 1074
  pub low : 2 ^ 52 ≤ a
  pub high : a < 2 ^ 54 - 1
  pub most : k < 2000
