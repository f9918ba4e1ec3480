-- The square root of a binary64 number, correctly rounded (IEEE 754, to the nearest): as a
-- statement over whole numbers and squares, and as a definition that computes. A finite binary64
-- number is a whole number of units of 2 ^ -1074, and the square of one is a whole number of units
-- of 2 ^ -2148.
use Rattle.std.specs.Prelude.{◌≡◌, ℕ, zero, suc, ◌+◌, ◌-◌, ◌*◌, ◌/◌, ◌^◌, ◌<◌, ◌≤◌, true, false, cond, T, nat_le, nat_lt, Float}
use Rattle.std.specs.Float.{nan, inf, fin, binary64}
use Rattle.std.specs.Float.Ieee.{fits, size, odd, up, down}
use Rattle.std.specs.Float.Ieee.Exact.{HasValue}

-- the square of a whole number
abbrev pub sq : ℕ → ℕ
sq n = n * n

-- ---- the statement

-- r is the binary64 number nearest to the root of n units of 2 ^ -2148. The root lies from 2 ^ 52
-- to below 2 ^ 53 steps of 2 ^ k units of 2 ^ -1074 (`from`, `to`): there the binary64 numbers are
-- the whole numbers of steps. r is q steps (`value`: with no minus sign, and q * 2 ^ k / 2 ^ 1074
-- in size). The root lies strictly between q - 1/2 and q + 1/2 steps, the midpoints to its
-- neighbours, so n lies between their squares, all taken four times (`above`, `below`). No root is
-- a midpoint, so there is no tie. And r is a binary64 number (`held`).
pub record RoundedRoot (n : ℕ) (r : Float) : Type 0 where
  pub k : ℕ
  pub q : ℕ
  pub from : sq (2 ^ 52 * 2 ^ k) ≤ n
  pub to : n < sq (2 ^ 53 * 2 ^ k)
  pub above : sq ((2 * q - 1) * 2 ^ k) < 4 * n
  pub below : 4 * n < sq ((2 * q + 1) * 2 ^ k)
  pub value : HasValue r false (q * 2 ^ k) (2 ^ 1074)
  pub held : T (fits binary64 r)

-- r is the correctly rounded root of x: NaN for a NaN and for a number below zero, +inf for +inf, a
-- zero for itself with its sign, and for any other x, normal or subnormal, of n units of 2 ^ -1074,
-- the rounded root of n * 2 ^ 1074 units of 2 ^ -2148.
unfoldable pub CorrectRoot : Float → Float → Type 0
CorrectRoot nan r = r ≡ nan
CorrectRoot (inf true) r = r ≡ nan
CorrectRoot (inf false) r = r ≡ inf false
CorrectRoot (fin s zero e) r = r ≡ fin s zero e
CorrectRoot (fin true (suc m) e) r = r ≡ nan
CorrectRoot (fin false (suc m) e) r = (n : ℕ) × HasValue (fin false (suc m) e) false n (2 ^ 1074) × RoundedRoot (n * 2 ^ 1074) r

-- ---- the same as a definition that computes

-- the whole part of the root of an n below 4 ^ d, a binary digit at a time
unfoldable pub whole_root : ℕ → ℕ → ℕ
whole_root zero n = 0
whole_root (suc d) n = let q = whole_root d (n / 4) in cond (nat_le (sq (2 * q + 1)) n) (2 * q + 1) (2 * q)

-- the whole number nearest to the root of an n below 4 ^ 53: the whole part q, or the next where n
-- lies above the square of q + 1/2
unfoldable pub nearest_root : ℕ → ℕ
unfolding whole_root
nearest_root n = let q = whole_root 53 n in cond (nat_lt (sq (2 * q + 1)) (4 * n)) (q + 1) q

-- the rounded root of n units of 2 ^ -2148: as many steps of 2 ^ k units of 2 ^ -1074 as have 53
-- digits. Nothing is lost in n / 4 ^ k where n is a binary64 number's.
unfoldable pub root_of : ℕ → Float
unfolding nearest_root
root_of n = let k = (size n - 105) / 2 in odd 54 false (nearest_root (n / 4 ^ k)) k 1074

-- the square root of x: x itself where it is a zero or +inf, NaN where it is a NaN or below zero,
-- else the rounded root of its n * 2 ^ 1074 units of 2 ^ -2148
unfoldable pub sqrt_of : Float → Float
unfolding root_of
sqrt_of nan = nan
sqrt_of (inf true) = nan
sqrt_of (inf false) = inf false
sqrt_of (fin s zero e) = fin s zero e
sqrt_of (fin true (suc m) e) = nan
sqrt_of (fin false (suc m) e) = root_of (suc m * up e * 2 ^ 1074 / down e * 2 ^ 1074)
