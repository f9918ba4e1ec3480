-- Magnitudes: what the test for the usual case says of them, and what they keep of the number.
-- Assumes nothing.
use mathlib.Core.Path.{◌≡◌, refl, sym, ap, ◌∙◌}
use Prim.Native.Nat.{ℕ, zero, suc, ◌*◌, ◌<◌}
use native.Mathlib.Nat.{zero-mul, mul-pos, zero-lt-suc}
use native.Mathlib.Omega.{arith}
use mathlib.Core.Bool.{Bool, true, false, cond, true≢false, and-false}
use lib.IntN.{ℤ, negsuc}
use lib.Ieee.{Float, nan, inf, fin, of_bits, is_nan, neg, lt, eq, div, up, down}
use lib.Ieee.Fits.{up_pos, down_pos}
use borrow.Author.Tests.{lt-ltb, le-ltb}
use Rattle.floats.specs.Binary64.{◌⊘◌, bits}
use Rattle.floats.specs.Number.{sign_of, abs_of}
use Rattle.floats.proofs.Zero.{equals_zero, differs_from_zero, sign_of_other}
use Rattle.floats.proofs.Laws.{abs_is_not_negative}
use Rattle.arctan.specs.Arctan.{one, infinity, moderate, within_of, octant_index_of, quotient_angle_of, inside_of, angle_of, signed, atan2_of}
use Rattle.arctan.specs.Table.{octant_at}

pub one_over_zero : one ⊘ bits 0 ≡ infinity
unfolding div of_bits
one_over_zero = refl

pub nan_of_abs : (x : Float) → is_nan (abs_of x) ≡ is_nan x
unfolding is_nan neg sign_of
nan_of_abs nan = refl
nan_of_abs (inf true) = refl
nan_of_abs (inf false) = refl
nan_of_abs (fin true m e) = refl
nan_of_abs (fin false m e) = refl

inf_is_no_zero : (s : Bool) → eq (inf s) (bits 0) ≡ false
unfolding eq of_bits
inf_is_no_zero s = refl

pub zero_of_abs : (x : Float) → eq (abs_of x) (bits 0) ≡ eq x (bits 0)
unfolding neg sign_of
zero_of_abs nan = refl
zero_of_abs (inf true) = inf_is_no_zero false ∙ sym (inf_is_no_zero true)
zero_of_abs (inf false) = refl
zero_of_abs (fin true zero e) = equals_zero false e ∙ sym (equals_zero true e)
zero_of_abs (fin true (suc m) e) = differs_from_zero false m e ∙ sym (differs_from_zero true m e)
zero_of_abs (fin false m e) = refl

-- neither NaN nor zero nor infinite
abbrev Plain : Float → Type 0
Plain v = (is_nan v ≡ false) × (eq v (bits 0) ≡ false) × (eq v infinity ≡ false)

plain_if_not_zero : (s : Bool) (m : ℕ) (e : ℤ) → Plain (fin s (suc m) e)
unfolding is_nan eq of_bits
plain_if_not_zero s m e = (refl, differs_from_zero s m e, refl)

-- a zero, however it is written, is above nothing and below what is no zero
nothing : (e : ℤ) (w : ℕ) → 0 * up e * w ≡ 0
nothing e w = ap (λ (v : ℕ). v * w) (zero-mul (up e)) ∙ zero-mul w

something : (n : ℕ) (e d : ℤ) → 0 < suc n * up d * down e
something n e d = mul-pos (mul-pos (zero-lt-suc n) (up_pos d)) (down_pos e)

pub no_zero_is_above : (m : ℕ) (e d : ℤ) → lt (fin false m e) (fin false zero d) ≡ false
unfolding lt
no_zero_is_above m e d = le-ltb (m * up e * down d) (0 * up d * down e) (let z = nothing d (down e) in omega arith)

pub zero_is_below : (n : ℕ) (e d : ℤ) → lt (fin false zero e) (fin false (suc n) d) ≡ true
unfolding lt
zero_is_below n e d = lt-ltb (0 * up e * down d) (suc n * up d * down e) (let z = nothing e (down d) in let p = something n e d in omega arith)

zero_is_not_moderate : (a : Float) (e : ℤ) → moderate a (fin false zero e) ≡ false
unfolding moderate of_bits
zero_is_not_moderate a e = rw (no_zero_is_above 1 (negsuc 699) e) (and-false (lt a (bits 0x6bb0_0000_0000_0000)))

-- moderate magnitudes are neither NaN nor zero nor infinite
moderate_parts_are_plain : (a b : Float) → sign_of a ≡ false → sign_of b ≡ false → moderate (cond (lt a b) b a) (cond (lt a b) a b) ≡ true → Plain a × Plain b
unfolding moderate lt sign_of of_bits
moderate_parts_are_plain nan b p q h = absurd (true≢false (sym h))
moderate_parts_are_plain (inf true) b p q h = absurd (true≢false p)
moderate_parts_are_plain (inf false) nan p q h = absurd (true≢false (sym h))
moderate_parts_are_plain (inf false) (inf t) p q h = absurd (true≢false (sym h))
moderate_parts_are_plain (inf false) (fin t n d) p q h = absurd (true≢false (sym h))
moderate_parts_are_plain (fin true m e) b p q h = absurd (true≢false p)
moderate_parts_are_plain (fin false m e) nan p q h = absurd (true≢false (sym h ∙ and-false (lt (fin false m e) (bits 0x6bb0_0000_0000_0000))))
moderate_parts_are_plain (fin false m e) (inf true) p q h = absurd (true≢false q)
moderate_parts_are_plain (fin false m e) (inf false) p q h = absurd (true≢false (sym h))
moderate_parts_are_plain (fin false m e) (fin true n d) p q h = absurd (true≢false q)
moderate_parts_are_plain (fin false zero e) (fin false zero d) p q h = absurd (true≢false (sym (rw (no_zero_is_above zero e d) at h) ∙ zero_is_not_moderate (fin false zero e) d))
moderate_parts_are_plain (fin false zero e) (fin false (suc n) d) p q h = absurd (true≢false (sym (rw (zero_is_below n e d) at h) ∙ zero_is_not_moderate (fin false (suc n) d) e))
moderate_parts_are_plain (fin false (suc m) e) (fin false zero d) p q h = absurd (true≢false (sym (rw (no_zero_is_above (suc m) e d) at h) ∙ zero_is_not_moderate (fin false (suc m) e) d))
moderate_parts_are_plain (fin false (suc m) e) (fin false (suc n) d) p q h = (plain_if_not_zero false m e, plain_if_not_zero false n d)

is_the_nan : (x : Float) → is_nan x ≡ true → x ≡ nan
unfolding is_nan
is_the_nan nan h = refl
is_the_nan (inf s) h = absurd (true≢false (sym h))
is_the_nan (fin s m e) h = absurd (true≢false (sym h))

-- the usual case: no part is NaN, zero or infinite, so that being below zero tells a sign
module _ (y x : Float) where
  abbrev a : Float
  a = abs_of x

  abbrev b : Float
  b = abs_of y

  abbrev k : ℕ
  k = octant_index_of (lt x (bits 0)) (lt a b)

  abbrev large : Float
  large = cond (lt a b) b a

  abbrev small : Float
  small = cond (lt a b) a b

  pub usual-point : moderate large small ≡ true
      → signed (lt y (bits 0)) (within_of (octant_at k) (quotient_angle_of k large small)) ≡ atan2_of y x
  unfolding atan2_of angle_of inside_of
  usual-point h =
      let plain = moderate_parts_are_plain a b (abs_is_not_negative x) (abs_is_not_negative y) h in
      rw (
        sign_of_other y (sym (zero_of_abs y) ∙ plain.1.1),
        sign_of_other x (sym (zero_of_abs x) ∙ plain.0.1),
        sym (nan_of_abs y) ∙ plain.1.0,
        sym (nan_of_abs x) ∙ plain.0.0,
        plain.1.1,
        plain.0.1,
        plain.1.2,
        plain.0.2,
        h,
      )

  pub nan-first : is_nan y ≡ true → y ≡ atan2_of y x
  unfolding atan2_of
  nan-first h = rw h (is_the_nan y h)

  pub nan-second : is_nan y ≡ false → is_nan x ≡ true → x ≡ atan2_of y x
  unfolding atan2_of
  nan-second g h = rw (g, h) (is_the_nan x h)

  pub below-the-axis : is_nan y ≡ false → is_nan x ≡ false → sign_of y ≡ true → neg (angle_of b x) ≡ atan2_of y x
  unfolding atan2_of
  below-the-axis p q s = rw (p, q, s)

  pub above-the-axis : is_nan y ≡ false → is_nan x ≡ false → sign_of y ≡ false → angle_of b x ≡ atan2_of y x
  unfolding atan2_of
  above-the-axis p q s = rw (p, q, s)
