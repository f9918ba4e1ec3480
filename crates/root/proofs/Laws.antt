-- What is true of the square root, for callers. Assumes nothing.
use Rattle.std.proofs.Common.{◌≡◌, ℕ, zero, suc, ◌+◌, ◌-◌, ◌*◌, ◌/◌, ◌^◌, ◌<◌, Bool, true, false, not, ◌||◌, T, ltb, ℤ, pos, sym, refl, ap, ◌∙◌, subst, le_of_eq, lt_of_lt_of_le, add-zero, zero-lt-suc, mul-pos, zero-mul, mul-one, arith, ltb→lt, lt→ltb}
use lib.Dec.{not_T}
use lib.Count.{count_trailing_zeros}
use lib.Ieee.{Float, nan, inf, fin, binary64, fits, is_nan, lt, odd, size, minus, up, down}
use lib.Ieee.Bits.{is_true, is_false}
use lib.Ieee.Fits.{up_pos}
use Rattle.root.specs.Sqrt.{CorrectRoot, nearest_root, root_of, sqrt_of}
use Rattle.root.proofs.Rounded.{definition_is_correct, no_choice}

-- the root is the binary64 number nearest to the exact root
pub sqrt_is_correctly_rounded : (x : Float) → T (fits binary64 x) → CorrectRoot x (sqrt_of x)
sqrt_is_correctly_rounded x held = definition_is_correct x held

-- two numbers that meet the statement are the same
pub correct_root_is_unique : (x r s : Float) → CorrectRoot x r → CorrectRoot x s → r ≡ s
correct_root_is_unique x r s a b = no_choice x r s a b

-- the root of a binary64 number is one
pub sqrt-fits : (x : Float) → T (fits binary64 x) → T (fits binary64 (sqrt_of x))
unfolding sqrt_of CorrectRoot fits
sqrt-fits nan f = tt
sqrt-fits (inf true) f = tt
sqrt-fits (inf false) f = tt
sqrt-fits (fin s zero e) f = f
sqrt-fits (fin true (suc m) e) f = tt
sqrt-fits (fin false (suc m) e) f = (definition_is_correct (fin false (suc m) e) f).2.held

-- ---- zeros, infinities, negative numbers, NaN

pub sqrt_of_zero_is_that_zero : (s : Bool) → sqrt_of (fin s 0 (pos 0)) ≡ fin s 0 (pos 0)
unfolding sqrt_of
sqrt_of_zero_is_that_zero s = refl

pub sqrt_of_plus_infinity_is_itself : sqrt_of (inf false) ≡ inf false
unfolding sqrt_of
sqrt_of_plus_infinity_is_itself = refl

pub sqrt_of_nan_is_nan : sqrt_of nan ≡ nan
unfolding sqrt_of
sqrt_of_nan_is_nan = refl

-- a minus sign and a significand above 0 are below zero; a zero and a number with no minus sign are
-- not
below_zero : (m : ℕ) (e : ℤ) → lt (fin true (suc m) e) (fin false 0 (pos 0)) ≡ true
unfolding lt
below_zero m e =
    let sum : suc m * up e * 1 + 0 * down e ≡ suc m * up e = ap (λ (z : ℕ). suc m * up e * 1 + z) (zero-mul (down e)) ∙ add-zero (suc m * up e * 1) ∙ mul-one (suc m * up e) in
    is_true (ltb 0 (suc m * up e * 1 + 0 * down e)) (lt→ltb 0 (suc m * up e * 1 + 0 * down e) (lt_of_lt_of_le (mul-pos (zero-lt-suc m) (up_pos e)) (le_of_eq (sym sum))))

not_below : (a b : ℕ) → b ≡ 0 → ltb a b ≡ false
not_below a b e = is_false (ltb a b) (not_T (ltb a b) (λ u. nothing (ltb→lt a b u)))
  where
    nothing : a < b → ⊥
    nothing h = omega arith

zero_not_below : (s : Bool) (e : ℤ) → lt (fin s 0 e) (fin false 0 (pos 0)) ≡ false
unfolding lt
zero_not_below true e = not_below 0 (0 * up e * 1 + 0 * down e) (ap (λ (z : ℕ). z * 1 + 0 * down e) (zero-mul (up e)) ∙ ap (λ (z : ℕ). 0 + z) (zero-mul (down e)))
zero_not_below false e = not_below (0 * up e * 1) (0 * down e) (zero-mul (down e))

plus_not_below : (m : ℕ) (e : ℤ) → lt (fin false m e) (fin false 0 (pos 0)) ≡ false
unfolding lt
plus_not_below m e = not_below (m * up e * 1) (0 * down e) (zero-mul (down e))

no_number : {A : Type 0} → false ≡ true → A
no_number p = absurd (subst (λ (b : Bool). T (not b)) p tt)

pub sqrt_of_negative_is_nan : (x : Float) → lt x (fin false 0 (pos 0)) ≡ true → sqrt_of x ≡ nan
unfolding sqrt_of lt
sqrt_of_negative_is_nan nan h = refl
sqrt_of_negative_is_nan (inf true) h = refl
sqrt_of_negative_is_nan (inf false) h = no_number h
sqrt_of_negative_is_nan (fin s zero e) h = no_number (sym (zero_not_below s e) ∙ h)
sqrt_of_negative_is_nan (fin true (suc m) e) h = refl
sqrt_of_negative_is_nan (fin false (suc m) e) h = no_number (sym (plus_not_below (suc m) e) ∙ h)

-- the rounded root is a number with no minus sign
root_is_plus : (n : ℕ) → (is_nan (root_of n) ≡ false) × (lt (root_of n) (fin false 0 (pos 0)) ≡ false)
unfolding root_of odd is_nan
root_is_plus n = let k : ℕ = (size n - 105) / 2 in odd-is-plus 54 (nearest_root (n / 4 ^ k)) k 1074
  where
    odd-is-plus : (d q k l : ℕ) → (is_nan (odd d false q k l) ≡ false) × (lt (odd d false q k l) (fin false 0 (pos 0)) ≡ false)
    odd-is-plus d zero k l = (refl, plus_not_below 0 (pos 0))
    odd-is-plus d (suc q) k l = (refl, plus_not_below (suc q / 2 ^ count_trailing_zeros d (suc q)) (minus (k + count_trailing_zeros d (suc q)) l))

pub sqrt_is_nan_exactly_for_nan_and_negatives : (x : Float) → is_nan (sqrt_of x) ≡ (is_nan x || lt x (fin false 0 (pos 0)))
unfolding sqrt_of is_nan lt
sqrt_is_nan_exactly_for_nan_and_negatives nan = refl
sqrt_is_nan_exactly_for_nan_and_negatives (inf true) = refl
sqrt_is_nan_exactly_for_nan_and_negatives (inf false) = refl
sqrt_is_nan_exactly_for_nan_and_negatives (fin s zero e) = sym (zero_not_below s e)
sqrt_is_nan_exactly_for_nan_and_negatives (fin true (suc m) e) = sym (below_zero m e)
sqrt_is_nan_exactly_for_nan_and_negatives (fin false (suc m) e) = (root_is_plus (suc m * up e * 2 ^ 1074 / down e * 2 ^ 1074)).0 ∙ sym (plus_not_below (suc m) e)

pub sqrt_is_never_negative : (x : Float) → lt (sqrt_of x) (fin false 0 (pos 0)) ≡ false
unfolding sqrt_of lt
sqrt_is_never_negative nan = refl
sqrt_is_never_negative (inf true) = refl
sqrt_is_never_negative (inf false) = refl
sqrt_is_never_negative (fin s zero e) = zero_not_below s e
sqrt_is_never_negative (fin true (suc m) e) = refl
sqrt_is_never_negative (fin false (suc m) e) = (root_is_plus (suc m * up e * 2 ^ 1074 / down e * 2 ^ 1074)).1
