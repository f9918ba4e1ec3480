-- The magnitude by the bits, and that an ordinary sum of squares has no NaN in it. Assumes nothing.
use mathlib.Core.Path.{◌≡◌, refl, sym, ap, subst, ◌∙◌}
use Prim.Native.Nat.{ℕ, ◌+◌, ◌%◌, ◌<◌}
use native.Mathlib.Omega.{arith}
use mathlib.Core.Bool.{Bool, true, false, not, true≢false}
use lib.Dec.{T}
use lib.Ieee.{Float, nan, inf, fin, binary64, fits, is_nan, nan_bits, to_bits, of_bits, neg, add, mul, lt}
use lib.Ieee.Bits.{of_bits-to_bits, nan_bits_is}
use lib.Ieee.Fits.{neg-fits, cond-fits}
use borrow.Author.Tests.{leb-false}
use Rattle.floats.specs.Binary64.{◌⊕◌, ◌⊗◌}
use Rattle.floats.specs.Number.{sign_of, abs_of}
use Rattle.floats.proofs.Values.{sign_is_the_highest_bit}
use Rattle.hypot.specs.Hypot.{squares_of, ordinary}

-- ---- the bits of a magnitude are the lower 63

below_the_sign : (x : Float) → T (fits binary64 x) → T (not (is_nan x)) → sign_of x ≡ false → to_bits binary64 x < 0x8000_0000_0000_0000
below_the_sign x f h s = leb-false 0x8000_0000_0000_0000 (to_bits binary64 x) (sign_is_the_highest_bit x f h ∙ s)

without_sign : (k q : ℕ) → 0 + k + q < 0x8000_0000_0000_0000 → (0x8000_0000_0000_0000 + k + q) % 0x8000_0000_0000_0000 ≡ 0 + k + q
without_sign k q h = omega arith

lower_bits : (x : Float) → T (fits binary64 x) → is_nan x ≡ false → to_bits binary64 x % 0x8000_0000_0000_0000 ≡ to_bits binary64 (abs_of x)
unfolding to_bits neg sign_of is_nan
lower_bits nan f h = absurd (true≢false h)
lower_bits (inf true) f h = refl
lower_bits (inf false) f h = refl
lower_bits (fin true m e) f h = without_sign _ _ (below_the_sign (fin false m e) (neg-fits binary64 (fin true m e) f) tt refl)
lower_bits (fin false m e) f h = let b = below_the_sign (fin false m e) f tt refl in omega arith

pub abs_fits : (x : Float) → T (fits binary64 x) → T (fits binary64 (abs_of x))
abs_fits x h = cond-fits binary64 (sign_of x) (neg x) x (neg-fits binary64 x h) h

pub magnitude_by_bits : (x : Float) → T (fits binary64 x) → is_nan x ≡ false → of_bits binary64 (to_bits binary64 x % 0x8000_0000_0000_0000) ≡ abs_of x
magnitude_by_bits x f h = ap (of_bits binary64) (lower_bits x f h) ∙ of_bits-to_bits binary64 (abs_of x) (abs_fits x f)

pub nan_of_abs : (x : Float) → is_nan (abs_of x) ≡ is_nan x
unfolding is_nan neg sign_of
nan_of_abs nan = refl
nan_of_abs (inf true) = refl
nan_of_abs (inf false) = refl
nan_of_abs (fin true m e) = refl
nan_of_abs (fin false m e) = refl

pub lower_bits_are_no_nan : (x : Float) → T (fits binary64 x) → is_nan x ≡ false → T (not (nan_bits binary64 (to_bits binary64 x % 0x8000_0000_0000_0000)))
lower_bits_are_no_nan x f h =
    subst (λ (t : Bool). T (not t)) (sym (nan_bits_is binary64 _ ∙ ap is_nan (magnitude_by_bits x f h) ∙ nan_of_abs x ∙ h)) tt

-- ---- parts of an ordinary sum

nan_is_not_ordinary : ordinary nan ≡ false
unfolding ordinary lt of_bits
nan_is_not_ordinary = refl

sum_with_nan : (v : Float) → v ⊕ nan ≡ nan
unfolding add
sum_with_nan nan = refl
sum_with_nan (inf s) = refl
sum_with_nan (fin s m e) = refl

sum_is_no_nan : (s : Float) → ordinary s ≡ true → is_nan s ≡ false
unfolding is_nan
sum_is_no_nan nan h = absurd (true≢false (sym h ∙ nan_is_not_ordinary))
sum_is_no_nan (inf s) h = refl
sum_is_no_nan (fin s m e) h = refl

first_is_no_nan : (x y : Float) → ordinary (x ⊗ x ⊕ y ⊗ y) ≡ true → is_nan x ≡ false
unfolding mul add is_nan
first_is_no_nan nan y h = absurd (true≢false (sym h ∙ nan_is_not_ordinary))
first_is_no_nan (inf s) y h = refl
first_is_no_nan (fin s m e) y h = refl

second_is_no_nan : (x y : Float) → ordinary (x ⊗ x ⊕ y ⊗ y) ≡ true → is_nan y ≡ false
unfolding mul is_nan
second_is_no_nan x nan h = absurd (true≢false (sym h ∙ ap ordinary (sum_with_nan (x ⊗ x)) ∙ nan_is_not_ordinary))
second_is_no_nan x (inf s) h = refl
second_is_no_nan x (fin s m e) h = refl

module _ (s x y : Float) (sum : s ≡ squares_of x y) (usual : ordinary s ≡ true) where
  pub no-nan-sum : is_nan s ≡ false
  no-nan-sum = sum_is_no_nan s usual

  pub no-nan-first : is_nan x ≡ false
  unfolding squares_of
  no-nan-first = first_is_no_nan x y (sym (ap ordinary sum) ∙ usual)

  pub no-nan-second : is_nan y ≡ false
  unfolding squares_of
  no-nan-second = second_is_no_nan x y (sym (ap ordinary sum) ∙ usual)
