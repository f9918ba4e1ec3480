-- Squares, their sum and its two orders; infinite parts. Assumes nothing.
use mathlib.Core.Path.{◌≡◌, refl, sym, ap, ◌∙◌, subst}
use Prim.Native.Nat.{ℕ, zero, suc, ◌+◌, ◌*◌, ◌-◌, ◌/◌, ◌%◌, ◌^◌, compare}
use native.Mathlib.Nat.{add_comm, mul_comm}
use mathlib.Core.Bool.{Bool, true, false, cond, ◌||◌, true≢false}
use lib.Dec.{ltb}
use lib.Ieee.{Float, nan, inf, fin, binary64, of_bits, add, mul, div, neg, lt, eq, round, units, odd, sum, up, down, minus, size, nearest, is_nan}
use lib.IntN.{ℤ, pos}
use lib.Count.{count_trailing_zeros}
use lib.Ieee.Fits.{round_is}
use Rattle.floats.specs.Binary64.{◌⊕◌, ◌⊗◌, ◌⊘◌, bits}
use Rattle.floats.specs.Number.{sign_of, abs_of}
use Rattle.hypot.specs.Hypot.{infinite, larger, smaller, squares_of, ordinary, one, root_of, rescaled_of, length_of, bounded_of, hypot_of}

pub one_over_zero : one ⊘ bits 0 ≡ inf false
unfolding div of_bits
one_over_zero = refl

-- a part is infinite exactly where its magnitude equals +∞
pub equals_infinity : (x : Float) → eq (abs_of x) (inf false) ≡ infinite x
unfolding eq neg sign_of infinite
equals_infinity nan = refl
equals_infinity (inf true) = refl
equals_infinity (inf false) = refl
equals_infinity (fin true m e) = refl
equals_infinity (fin false m e) = refl

pub square_of_magnitude : (x : Float) → x ⊗ x ≡ abs_of x ⊗ abs_of x
unfolding mul neg sign_of
square_of_magnitude nan = refl
square_of_magnitude (inf true) = refl
square_of_magnitude (inf false) = refl
square_of_magnitude (fin true m e) = refl
square_of_magnitude (fin false m e) = refl

-- what holds of the infinity and of every finite number of a sign holds of what is rounded with
-- that sign
module _ (P : Float → Type 0) (s : Bool) (infinity : P (inf s)) (finite : (m : ℕ) (e : ℤ) → P (fin s m e)) where
  of_odd : (q j : ℕ) → P (odd 54 s q j 1074)
  unfolding odd
  of_odd zero j = finite zero (pos zero)
  of_odd (suc q) j = let t = count_trailing_zeros 54 (suc q) in finite (suc q / 2 ^ t) (minus (j + t) 1074)

  of_units : (q j : ℕ) → P (units binary64 s q j)
  unfolding units
  of_units q j = go (ltb (q * 2 ^ j) (2 ^ 2098))
    where
      go : (t : Bool) → P (cond t (odd 54 s q j 1074) (inf s))
      go true = of_odd q j
      go false = infinity

  pub of-rounded : (n d : ℕ) → P (round binary64 s n d)
  of-rounded n d =
      let w = n * 2 ^ 1074 in
      let k = size (w / d) - 53 in
      subst P (sym (round_is binary64 s n d)) (of_units (nearest (w / (d * 2 ^ k)) (compare (w % (d * 2 ^ k) * 2) (d * 2 ^ k))) k)

pub sign_of_rounded : (s : Bool) (n d : ℕ) → sign_of (round binary64 s n d) ≡ s
unfolding sign_of
sign_of_rounded s = of-rounded (λ (v : Float). sign_of v ≡ s) s refl (λ m e. refl)

pub rounded_is_no_nan : (s : Bool) (n d : ℕ) → is_nan (round binary64 s n d) ≡ false
unfolding is_nan
rounded_is_no_nan s = of-rounded (λ (v : Float). is_nan v ≡ false) s refl (λ m e. refl)

pub square_is_not_negative : (x : Float) → sign_of (x ⊗ x) ≡ false
unfolding mul sign_of
square_is_not_negative nan = refl
square_is_not_negative (inf true) = refl
square_is_not_negative (inf false) = refl
square_is_not_negative (fin true m e) = sign_of_rounded false (m * up e * (m * up e)) (down e * down e)
square_is_not_negative (fin false m e) = sign_of_rounded false (m * up e * (m * up e)) (down e * down e)

pub sum_in_either_order : (x y : Float) → sign_of x ≡ false → sign_of y ≡ false → x ⊕ y ≡ y ⊕ x
unfolding add sum sign_of
sum_in_either_order nan nan p q = refl
sum_in_either_order nan (inf t) p q = refl
sum_in_either_order nan (fin t n d) p q = refl
sum_in_either_order (inf s) nan p q = refl
sum_in_either_order (inf s) (inf t) p q = rw (p, q)
sum_in_either_order (inf s) (fin t n d) p q = refl
sum_in_either_order (fin s m e) nan p q = refl
sum_in_either_order (fin s m e) (inf t) p q = refl
sum_in_either_order (fin s m e) (fin t n d) p q =
    rw (p, q, add_comm (m * up e * down d) (n * up d * down e), mul_comm (down e) (down d))

-- the squares of the larger and the smaller magnitude, in the order in which the parts stand
pub squares_of_parts : (x y : Float) → x ⊗ x ⊕ y ⊗ y ≡ squares_of (larger (abs_of x) (abs_of y)) (smaller (abs_of x) (abs_of y))
unfolding squares_of larger smaller
squares_of_parts x y = rw (square_of_magnitude x, square_of_magnitude y) (go (lt (abs_of x) (abs_of y)))
  where
    a : Float
    a = abs_of x

    b : Float
    b = abs_of y

    go : (t : Bool) → a ⊗ a ⊕ b ⊗ b ≡ cond t b a ⊗ cond t b a ⊕ cond t a b ⊗ cond t a b
    go true = sum_in_either_order (a ⊗ a) (b ⊗ b) (square_is_not_negative a) (square_is_not_negative b)
    go false = refl

-- a sum with an infinite square is not ordinary
too_large : (z : Float) → ordinary (inf false ⊕ z) ≡ false
unfolding ordinary add lt of_bits
too_large nan = refl
too_large (inf true) = refl
too_large (inf false) = refl
too_large (fin t n d) = refl

too_large_too : (z : Float) → ordinary (z ⊕ inf false) ≡ false
unfolding ordinary add lt of_bits
too_large_too nan = refl
too_large_too (inf true) = refl
too_large_too (inf false) = refl
too_large_too (fin t n d) = refl

pub ordinary_parts_are_finite : (x y : Float) → ordinary (x ⊗ x ⊕ y ⊗ y) ≡ true → (infinite x || infinite y) ≡ false
unfolding infinite mul
ordinary_parts_are_finite (inf true) y h = absurd (true≢false (sym h ∙ too_large (y ⊗ y)))
ordinary_parts_are_finite (inf false) y h = absurd (true≢false (sym h ∙ too_large (y ⊗ y)))
ordinary_parts_are_finite nan (inf true) h = absurd (true≢false (sym h ∙ too_large_too (nan ⊗ nan)))
ordinary_parts_are_finite nan (inf false) h = absurd (true≢false (sym h ∙ too_large_too (nan ⊗ nan)))
ordinary_parts_are_finite (fin s m e) (inf true) h = absurd (true≢false (sym h ∙ too_large_too (fin s m e ⊗ fin s m e)))
ordinary_parts_are_finite (fin s m e) (inf false) h = absurd (true≢false (sym h ∙ too_large_too (fin s m e ⊗ fin s m e)))
ordinary_parts_are_finite nan nan h = refl
ordinary_parts_are_finite nan (fin t n d) h = refl
ordinary_parts_are_finite (fin s m e) nan h = refl
ordinary_parts_are_finite (fin s m e) (fin t n d) h = refl

-- ---- the three ways of the code

module _ (x y : Float) where
  abbrev a : Float
  a = larger (abs_of x) (abs_of y)

  abbrev b : Float
  b = smaller (abs_of x) (abs_of y)

  pub ordinary-pair : (s : Float) → s ≡ squares_of x y → ordinary s ≡ true → bounded_of a b (root_of s a b) ≡ hypot_of x y
  unfolding hypot_of length_of squares_of
  ordinary-pair s e h = let o : ordinary (x ⊗ x ⊕ y ⊗ y) ≡ true = sym (ap ordinary e) ∙ h in rw (e, ordinary_parts_are_finite x y o, ← squares_of_parts x y, o)

  pub infinite-first : infinite x ≡ true → inf false ≡ hypot_of x y
  unfolding hypot_of
  infinite-first h = rw h

  pub infinite-second : infinite x ≡ false → infinite y ≡ true → inf false ≡ hypot_of x y
  unfolding hypot_of
  infinite-second g h = rw (g, h)

  pub scaled-pair : ordinary (x ⊗ x ⊕ y ⊗ y) ≡ false → infinite x ≡ false → infinite y ≡ false → bounded_of a b (rescaled_of a b) ≡ hypot_of x y
  unfolding hypot_of length_of
  scaled-pair h p q = rw (p, q, ← squares_of_parts x y, h)
