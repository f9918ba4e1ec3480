-- Rounding is near: the whole number closest to a fraction lies within half a unit of it, and a
-- fraction in binary64's normal range rounds to within 2^-53 of itself. Magnitudes are counted in
-- units of binary64's smallest number, 2^-1074. 4503599627370496 is 2^52, 9007199254740992 is 2^53.
-- Working definitions, which no promise cites: `Half`, `Close`. Assumes nothing.
use mathlib.Core.Path.{◌≡◌, ap, ◌∙◌, subst}
use Prim.Native.Nat.{ℕ, suc, ◌+◌, ◌*◌, ◌/◌, ◌%◌, ◌^◌, ◌≤◌, ◌<◌, compare, Ordering}
use native.Mathlib.Omega.{arith}
use native.Mathlib.Nat.{mul_comm, mul_assoc, mul_left_comm, one-mul, suc-mul, add-mul, mul-le-mul_right, mul-pos, mod-lt, div-add-mod', le-div_iff_mul-le, le_antisymm, lt_of_lt_of_le, lt_of_not-le, not-le_of_lt}
use mathlib.Core.Bool.{not}
use lib.Dec.{T, is_le, compare_is_eq, leb→le, nleb→lt, eqb→eq}
use lib.Pow.{pow-add, pow_pos, pow_mono}
use lib.Ieee.{binary64, size, nearest}
use lib.Ieee.Digits.{size-lt, size-le, size_reaches}
use lib.Ieee.Nearest.{closest}
use lib.Ieee.Order.{drop, kept}
use lib.Ieee.Scale.{grid, normal_of_fraction}

-- ---- the whole number closest to n / u

-- q units of u lie within half a unit of n
pub record Half (n u q : ℕ) : Type 0 where
  pub above : q * u * 2 ≤ n * 2 + u
  pub below : n * 2 ≤ q * u * 2 + u

half : (q r u : ℕ) (o : Ordering) → r < u → (T (is_le o) → r * 2 ≤ u) → (T (not (is_le o)) → u < r * 2) → (T (compare_is_eq o) → r * 2 ≡ u)
    → Half (q * u + r) u (nearest q o)
half q r u Ordering.lt l le gt eq = let h = le tt in record { above = omega arith; below = omega arith }
half q r u Ordering.eq l le gt eq =
    let h = eq tt in
    let e = add-mul q (q % 2) u in
    let one : q % 2 * u ≤ 1 * u = mul-le-mul_right u (omega arith) in
    record { above = omega (arith, one-mul u); below = omega arith }
half q r u Ordering.gt l le gt eq = let h = gt tt in let e = suc-mul q u in record { above = omega arith; below = omega arith }

pub closest_is_near : (n u : ℕ) → 0 < u → Half n u (closest n u)
closest_is_near n u h =
    subst (λ (x : ℕ). Half x u (closest n u)) (div-add-mod' n u)
    (half (n / u) (n % u) u (compare (n % u * 2) u) (mod-lt n h) (leb→le (n % u * 2) u) (nleb→lt (n % u * 2) u) (eqb→eq (n % u * 2) u))

-- ---- a fraction a / c, rounded to g units

pub record Close (a c g : ℕ) : Type 0 where
  pub above : g * c * 9007199254740992 ≤ a * 2 ^ 1074 * 9007199254740992 + a * 2 ^ 1074
  pub below : a * 2 ^ 1074 * 9007199254740992 ≤ g * c * 9007199254740992 + a * 2 ^ 1074

by_half : (n u q x : ℕ) → x ≡ q * u → u * 4503599627370496 ≤ n → Half n u q
    → (x * 9007199254740992 ≤ n * 9007199254740992 + n) × (n * 9007199254740992 ≤ x * 9007199254740992 + n)
by_half n u q x e h p = let a = p.above in let b = p.below in (omega arith, omega arith)

-- one that is at least 2^-1022
pub rounds_close : (a c : ℕ) → 0 < c → 4503599627370496 * c ≤ a * 2 ^ 1074 → Close a c (grid binary64 a c)
rounds_close a c C h =
    let n = a * 2 ^ 1074 in
    let k = drop 53 n c in
    let u = c * 2 ^ k in
    let q = kept 53 n c in
    let digits : 53 ≤ size (n / c) = normal_of_fraction binary64 a c C h in
    let reaches : 2 ^ (52 + k) * c ≤ n = (le-div_iff_mul-le C).0 (size_reaches (n / c) (52 + k) (omega arith)) in
    let unit : u * 2 ^ 52 ≤ n = subst (λ (x : ℕ). x ≤ n) (ap (λ (x : ℕ). x * c) (pow-add 2 52 k) ∙ simp (mul_assoc, mul_comm, mul_left_comm)) reaches in
    let whole : q * 2 ^ k * c ≡ q * u = simp (mul_assoc, mul_comm, mul_left_comm) in
    let r = by_half n u q (q * 2 ^ k * c) whole unit (closest_is_near n u (mul-pos C (pow_pos k))) in
    record { above = r.0; below = r.1 }

-- ---- how many binary digits a number has

pub size_is : (n j : ℕ) → 2 ^ j ≤ n → n < 2 ^ suc j → size n ≡ suc j
size_is n j low high =
    le_antisymm (size-le n (suc j) high) (lt_of_not-le (λ (g : size n ≤ j). not-le_of_lt (lt_of_lt_of_le (size-lt n) (pow_mono g)) low))
