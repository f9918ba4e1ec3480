-- `whole_of x` is D where x lies within 3/8 of D, for D below 2^50. The sum with 2^52 has 53 binary
-- digits before the point, so it rounds to the whole number closest to it, and its lower 52 bits
-- are what that number has above 2^52. Magnitudes are counted in units of 2^-1074. 4503599627370496
-- is 2^52, 9007199254740992 is 2^53 and 1125899906842624 is 2^50. Working definition, which no
-- promise cites: `Within`. Assumes nothing.
use mathlib.Core.Path.{◌≡◌, sym, ap, ◌∙◌, subst}
use mathlib.Core.Logic.{◌↔◌}
use Prim.Native.Nat.{ℕ, suc, ◌+◌, ◌-◌, ◌*◌, ◌/◌, ◌%◌, ◌^◌, ◌≤◌, ◌<◌}
use native.Mathlib.Omega.{arith}
use native.Mathlib.Nat.{mul-one, mul_comm, mul_assoc, add-mul, suc-mul, mul-le-mul_right, mul-pos, mul-div_cancel, lt_of_mul-lt-mul_right, mul-lt-mul_of_pos_right, eq_of_mul-eq-mul_right, le_antisymm, le_of_suc-le-suc, lt_of_lt_of_le, lt_of_not-le}
use mathlib.Core.Bool.{true, false, true≢false}
use borrow.Author.Tests.{ltb-true, lt-ltb}
use lib.Pow.{pow_pos, pow_mono}
use lib.Ieee.{Float, nan, inf, fin, binary64, to_bits, of_bits, add, lt, sum, round, size, up, down}
use lib.Ieee.Fits.{down_pos}
use lib.Ieee.Exact.{HasValue}
use lib.Ieee.Nearest.{closest, closest_same}
use lib.Ieee.Order.{drop, kept}
use lib.Ieee.Scale.{grid, overflow, round_same, round_val}
use Rattle.floats.specs.Binary64.{◌⊕◌}
use Rattle.decimal.specs.Places.{two_to52, whole_of}
use Rattle.decimal.proofs.Near.{Half, closest_is_near, size_is}

-- ---- the lower 52 bits of a whole number from 2^52 to below 2^53: what it has above 2^52

by_units : (n v : ℕ) → n ≡ v * 2 ^ 1074 → 4503599627370496 ≤ v → v < 9007199254740992
    → (0 + (size n - 53) * 4503599627370496 + n / 2 ^ (size n - 53)) % 4503599627370496 ≡ v - 4503599627370496
by_units n v e lo hi =
    let digits : size (v * 2 ^ 1074) ≡ 1127 = size_is (v * 2 ^ 1074) 1126 (mul-le-mul_right (2 ^ 1074) lo) (mul-lt-mul_of_pos_right hi (pow_pos 1074)) in
    rw (e, digits, mul-div_cancel v (pow_pos 1074)) (omega arith)

lower_bits : (y : Float) (v : ℕ) → HasValue y false v 1 → 4503599627370496 ≤ v → v < 9007199254740992
    → to_bits binary64 y % 4503599627370496 ≡ v - 4503599627370496
unfolding to_bits
lower_bits nan v h lo hi = absurd h
lower_bits (inf s) v h lo hi = absurd h
lower_bits (fin true m e) v h lo hi = absurd (true≢false h.0)
lower_bits (fin false m e) v h lo hi =
    let swap : v * down e * 2 ^ 1074 ≡ v * 2 ^ 1074 * down e = simp (mul_assoc, mul_comm) in
    by_units (m * up e * 2 ^ 1074 / down e) v
    (ap (λ (x : ℕ). x * 2 ^ 1074 / down e) (sym (mul-one (m * up e)) ∙ h.1) ∙ ap (λ (x : ℕ). x / down e) swap ∙ mul-div_cancel (v * 2 ^ 1074) (down_pos e))
    lo hi

-- ---- the whole number closest to x, by its sum with 2^52

-- what is v·2^1074 units is v
whole-units : (y : Float) (v : ℕ) → HasValue y false (v * 2 ^ 1074) (2 ^ 1074) → HasValue y false v 1
whole-units nan v h = h
whole-units (inf s) v h = h
whole-units (fin s m e) v h = (
  h.0,
  eq_of_mul-eq-mul_right (2 ^ 1074) (pow_pos 1074) (m * up e * 1) (v * down e) (rw (mul-one (m * up e)) (h.1 ∙ simp (mul_assoc, mul_comm))),
)

crossed : (x d p L : ℕ) → x * L ≡ p * d → (x * 1 + 4503599627370496 * d) * L ≡ (p + 4503599627370496 * L) * (d * 1)
crossed x d p L e =
    rw (mul-one x, mul-one d, add-mul x (4503599627370496 * d) L, add-mul p (4503599627370496 * L) d, e)
    (ap (λ (z : ℕ). p * d + z) (simp (mul_assoc, mul_comm)))

sum_rounds : (x : Float) (p : ℕ) → HasValue x false p (2 ^ 1074) → x ⊕ two_to52 ≡ round binary64 false (p + 4503599627370496 * 2 ^ 1074) (2 ^ 1074)
unfolding add sum of_bits
sum_rounds nan p h = absurd h
sum_rounds (inf s) p h = absurd h
sum_rounds (fin true m e) p h = absurd (true≢false h.0)
sum_rounds (fin false m e) p h =
    round_same binary64 false (m * up e * 1 + 4503599627370496 * down e) (down e * 1) (p + 4503599627370496 * 2 ^ 1074) (2 ^ 1074)
    (rw (mul-one (down e)) (down_pos e)) (pow_pos 1074) (crossed (m * up e) (down e) p (2 ^ 1074) h.1)

-- p units within 3/8 of d
pub record Within (p d : ℕ) : Type 0 where
  pub above : p * 8 ≤ d * 2 ^ 1074 * 8 + 3 * 2 ^ 1074
  pub below : d * 2 ^ 1074 * 8 ≤ p * 8 + 3 * 2 ^ 1074

-- of n units of u, within 3/8 of a whole number, that number is the closest
closest_is : (n u c v : ℕ) → 0 < u → Half n u c → n * 8 ≤ v * u * 8 + 3 * u → v * u * 8 ≤ n * 8 + 3 * u → c ≡ v
closest_is n u c v U near above below =
    le_antisymm
    (le_of_suc-le-suc (lt_of_not-le (λ (g : suc v ≤ c).
    let m : suc v * u ≤ c * u = mul-le-mul_right u g in let s = suc-mul v u in let a = near.above in omega arith)))
    (le_of_suc-le-suc (lt_of_not-le (λ (g : suc c ≤ v).
    let m : suc c * u ≤ v * u = mul-le-mul_right u g in let s = suc-mul c u in let b = near.below in omega arith)))

-- the same of p + 2^52·u, where p is within 3/8 of d
shifted_up : (p d u : ℕ) → p * 8 ≤ d * u * 8 + 3 * u → d * u * 8 ≤ p * 8 + 3 * u
    → ((p + 4503599627370496 * u) * 8 ≤ (4503599627370496 + d) * u * 8 + 3 * u) × ((4503599627370496 + d) * u * 8 ≤ (p + 4503599627370496 * u) * 8 + 3 * u)
shifted_up p d u a b = let e = add-mul 4503599627370496 d u in (omega arith, omega arith)

at_least : (p n : ℕ) → n ≤ p + n
at_least p n = omega arith

at_most_lem : (p d u : ℕ) → 0 < u → d < 1125899906842624 → p * 8 ≤ d * u * 8 + 3 * u → p + 4503599627370496 * u < 9007199254740992 * u
at_most_lem p d u U few a = let m : suc d * u ≤ 1125899906842624 * u = mul-le-mul_right u few in let s = suc-mul d u in omega arith

module _ (x : Float) (p d : ℕ) (value : HasValue x false p (2 ^ 1074)) (few : d < 1125899906842624) (near : Within p d) where
  abbrev total : ℕ
  total = p + 4503599627370496 * 2 ^ 1074

  abbrev v : ℕ
  v = 4503599627370496 + d

  -- total units have 1,127 binary digits, of which 53 are kept
  dropped : drop 53 (total * 2 ^ 1074) (2 ^ 1074) ≡ 1074
  dropped =
      ap (λ (n : ℕ). size n - 53) (mul-div_cancel total (pow_pos 1074))
      ∙ ap (λ (n : ℕ). n - 53)
      (size_is total 1126 (at_least p (4503599627370496 * 2 ^ 1074)) (at_most_lem p d (2 ^ 1074) (pow_pos 1074) few near.above))

  kept-is : kept 53 (total * 2 ^ 1074) (2 ^ 1074) ≡ v
  kept-is =
      let up = shifted_up p d (2 ^ 1074) near.above near.below in
      ap (λ (k : ℕ). closest (total * 2 ^ 1074) (2 ^ 1074 * 2 ^ k)) dropped
      ∙ closest_same (total * 2 ^ 1074) (2 ^ 1074 * 2 ^ 1074) total (2 ^ 1074) (mul-pos (pow_pos 1074) (pow_pos 1074)) (pow_pos 1074) (mul_assoc total (2 ^ 1074) (2 ^ 1074))
      ∙ closest_is total (2 ^ 1074) (closest total (2 ^ 1074)) v (pow_pos 1074) (closest_is_near total (2 ^ 1074) (pow_pos 1074)) up.0 up.1

  total-rounds : grid binary64 total (2 ^ 1074) ≡ v * 2 ^ 1074
  total-rounds = ap (λ (q : ℕ). q * 2 ^ drop 53 (total * 2 ^ 1074) (2 ^ 1074)) kept-is ∙ ap (λ (k : ℕ). v * 2 ^ k) dropped

  sum-value : HasValue (x ⊕ two_to52) false v 1
  sum-value =
      let finite : v * 2 ^ 1074 < overflow binary64 =
      lt_of_lt_of_le (mul-lt-mul_of_pos_right {n = 9007199254740992} (omega arith) (pow_pos 1074)) (pow_mono {i = 1127} {j = 2098} (omega arith)) in
      whole-units (x ⊕ two_to52) v
      (rw (sum_rounds x p value)
      (subst (λ (g : ℕ). HasValue (round binary64 false total (2 ^ 1074)) false g (2 ^ 1074)) total-rounds
      (round_val binary64 total (2 ^ 1074) (subst (λ (g : ℕ). g < overflow binary64) (sym total-rounds) finite))))

  pub whole_is : whole_of x ≡ d
  unfolding whole_of
  whole_is = lower_bits (x ⊕ two_to52) v sum-value (omega arith) (omega arith) ∙ back
    where
      back : v - 4503599627370496 ≡ d
      back = omega arith

-- ---- below 2^52

pub below_when : (x : Float) (p : ℕ) → HasValue x false p (2 ^ 1074) → (lt x two_to52 ≡ true) ↔ (p < 4503599627370496 * 2 ^ 1074)
unfolding lt of_bits
below_when nan p h = absurd h
below_when (inf s) p h = absurd h
below_when (fin true m e) p h = absurd (true≢false h.0)
below_when (fin false m e) p h = (
  λ t.
      let less : m * up e * 1 < 4503599627370496 * down e = ltb-true _ _ t in
      lt_of_mul-lt-mul_right (down e) (subst (λ (a : ℕ). a < 4503599627370496 * 2 ^ 1074 * down e) (rw (mul-one (m * up e)) h.1)
      (subst (λ (a : ℕ). m * up e * 1 * 2 ^ 1074 < a) (simp (mul_assoc, mul_comm)) (mul-lt-mul_of_pos_right less (pow_pos 1074)))),
  λ l.
      lt-ltb (m * up e * 1) (4503599627370496 * down e)
      (lt_of_mul-lt-mul_right (2 ^ 1074) (subst (λ (a : ℕ). a < 4503599627370496 * down e * 2 ^ 1074) (sym (rw (mul-one (m * up e)) h.1))
      (subst (λ (a : ℕ). p * down e < a) (simp (mul_assoc, mul_comm)) (mul-lt-mul_of_pos_right l (down_pos e))))),
)
