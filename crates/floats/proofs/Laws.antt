-- What is true of signs, sameness and bit patterns, for callers to cite. Assumes nothing.
use mathlib.Core.Path.{◌≡◌, refl, sym, ap, ◌∙◌, subst}
use Prim.Native.Nat.{ℕ}
use mathlib.Core.Bool.{true, false}
use lib.Dec.{T, eqb→eq}
use lib.Ieee.{Float, nan, inf, fin, binary64, fits, to_bits, of_bits, neg}
use lib.Ieee.Bits.{of_bits-to_bits}
use borrow.Author.Tests.{eq-eqb}
use Rattle.floats.specs.Number.{sign_of, abs_of, copysign_of, same_of}

pub neg-neg : (x : Float) → neg (neg x) ≡ x
unfolding neg
neg-neg nan = refl
neg-neg (inf true) = refl
neg-neg (inf false) = refl
neg-neg (fin true m e) = refl
neg-neg (fin false m e) = refl

pub abs_of_neg : (x : Float) → abs_of (neg x) ≡ abs_of x
unfolding sign_of neg
abs_of_neg nan = refl
abs_of_neg (inf true) = refl
abs_of_neg (inf false) = refl
abs_of_neg (fin true m e) = refl
abs_of_neg (fin false m e) = refl

pub abs_is_not_negative : (x : Float) → sign_of (abs_of x) ≡ false
unfolding sign_of neg
abs_is_not_negative nan = refl
abs_is_not_negative (inf true) = refl
abs_is_not_negative (inf false) = refl
abs_is_not_negative (fin true m e) = refl
abs_is_not_negative (fin false m e) = refl

-- a number is its magnitude with its own sign
pub copysign_of_itself : (x : Float) → copysign_of x x ≡ x
unfolding sign_of neg
copysign_of_itself nan = refl
copysign_of_itself (inf true) = refl
copysign_of_itself (inf false) = refl
copysign_of_itself (fin true m e) = refl
copysign_of_itself (fin false m e) = refl

-- two numbers that binary64 holds are the same exactly where they are equal: one NaN, zeros by sign
pub same_are_equal : (x y : Float) → T (fits binary64 x) → T (fits binary64 y) → same_of x y ≡ true → x ≡ y
unfolding same_of
same_are_equal x y fx fy h =
    sym (of_bits-to_bits binary64 x fx) ∙ ap (λ (b : ℕ). of_bits binary64 b) (eqb→eq (to_bits binary64 x) (to_bits binary64 y) (subst T (sym h) tt))
    ∙ of_bits-to_bits binary64 y fy

pub equal_are_same : (x : Float) → same_of x x ≡ true
unfolding same_of
equal_are_same x = eq-eqb (to_bits binary64 x) (to_bits binary64 x) refl
