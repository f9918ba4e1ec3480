-- What is true of `hypot_of` for every two numbers, for callers to cite. `T (fits binary64 x)` says
-- that x is a number that binary64 holds, as every number of a program is. Assumes nothing.
use mathlib.Core.Path.{◌≡◌, refl, sym, ap, ◌∙◌, subst}
use Prim.Native.Nat.{ℕ, ◌+◌, ◌*◌}
use native.Mathlib.Nat.{add-zero, mul-one, zero-mul, mul_assoc, mul_comm, mul-le-mul_right, le-add_right, le_trans, le_of_eq, le_antisymm, mul-pos}
use native.Mathlib.Omega.{arith}
use mathlib.Core.Bool.{Bool, true, false, not, cond, ◌&&◌, ◌||◌, true≢false, or_comm, or-true, and-false}
use lib.IntN.{ℤ, pos}
use lib.Dec.{T}
use lib.Ieee.{Float, nan, inf, fin, binary64, fits, is_nan, of_bits, neg, add, sum, lt, le, eq, round, up, down}
use lib.Ieee.Fits.{neg-fits, down_pos}
use lib.Ieee.Order.{round_mono}
use lib.Ieee.Scale.{finite}
use lib.Ieee.Bits.{is_true}
use borrow.Author.Tests.{ltb-true, ltb-false, le-ltb, eq-eqb}
use Rattle.floats.specs.Binary64.{◌⊕◌, bits}
use Rattle.floats.specs.Number.{sign_of, abs_of}
use Rattle.floats.proofs.Laws.{abs_of_neg, abs_is_not_negative}
use Rattle.floats.proofs.Zero.{not_below_zero}
use Rattle.hypot.specs.Hypot.{infinite, larger, smaller, length_of, bounded_of, pair_of, hypot_of}
use Rattle.hypot.proofs.Squares.{sign_of_rounded, rounded_is_no_nan, sum_in_either_order}
use Rattle.hypot.proofs.Signless.{abs_fits, nan_of_abs}
use Rattle.floats.proofs.Values.{one_value_one_number, rounds_to_itself}

-- ---- infinite parts

pub infinite_if_either_part_is : (x y : Float) → (infinite x || infinite y) ≡ true → hypot_of x y ≡ inf false
unfolding hypot_of
infinite_if_either_part_is x y h = rw h

-- even beside a NaN
pub infinite_beside_a_nan : (s : Bool) → (hypot_of (inf s) nan ≡ inf false) × (hypot_of nan (inf s) ≡ inf false)
unfolding hypot_of infinite
infinite_beside_a_nan s = (refl, refl)

-- ---- by the magnitudes alone

infinite_of_neg : (x : Float) → infinite (neg x) ≡ infinite x
unfolding infinite neg
infinite_of_neg nan = refl
infinite_of_neg (inf s) = refl
infinite_of_neg (fin s m e) = refl

pub sign_of_first_does_not_matter : (x y : Float) → hypot_of (neg x) y ≡ hypot_of x y
unfolding hypot_of
sign_of_first_does_not_matter x y = rw (infinite_of_neg x, abs_of_neg x)

pub sign_of_second_does_not_matter : (x y : Float) → hypot_of x (neg y) ≡ hypot_of x y
unfolding hypot_of
sign_of_second_does_not_matter x y = rw (infinite_of_neg y, abs_of_neg y)

-- ---- the order of magnitudes

not_below_nan : (x : Float) → lt x nan ≡ false
unfolding lt
not_below_nan nan = refl
not_below_nan (inf s) = refl
not_below_nan (fin s m e) = refl

nan_is_not_below : (x : Float) → lt nan x ≡ false
unfolding lt
nan_is_not_below x = refl

-- of two numbers at most one is below the other
one_way : (x y : Float) → lt x y ≡ true → lt y x ≡ false
unfolding lt
one_way nan y h = absurd (true≢false (sym h))
one_way (inf s) nan h = absurd (true≢false (sym h))
one_way (inf true) (inf true) h = absurd (true≢false (sym h))
one_way (inf true) (inf false) h = refl
one_way (inf false) (inf t) h = absurd (true≢false (sym h))
one_way (inf true) (fin t n d) h = refl
one_way (inf false) (fin t n d) h = absurd (true≢false (sym h))
one_way (fin s m e) nan h = absurd (true≢false (sym h))
one_way (fin s m e) (inf true) h = absurd (true≢false (sym h))
one_way (fin s m e) (inf false) h = refl
one_way (fin false m e) (fin false n d) h = le-ltb (n * up d * down e) (m * up e * down d) (omega (arith, ltb-true (m * up e * down d) (n * up d * down e) h))
one_way (fin false m e) (fin true n d) h = absurd (true≢false (sym h))
one_way (fin true m e) (fin false n d) h = refl
one_way (fin true m e) (fin true n d) h = le-ltb (m * up e * down d) (n * up d * down e) (omega (arith, ltb-true (n * up d * down e) (m * up e * down d) h))

-- what is above a number without sign has none
above_no_sign : (a h : Float) → sign_of a ≡ false → lt a h ≡ true → sign_of h ≡ false
unfolding lt sign_of
above_no_sign nan h s l = absurd (true≢false (sym l))
above_no_sign (inf true) h s l = absurd (true≢false s)
above_no_sign (inf false) nan s l = absurd (true≢false (sym l))
above_no_sign (inf false) (inf t) s l = absurd (true≢false (sym l))
above_no_sign (inf false) (fin t n d) s l = absurd (true≢false (sym l))
above_no_sign (fin true m e) h s l = absurd (true≢false s)
above_no_sign (fin false m e) nan s l = absurd (true≢false (sym l))
above_no_sign (fin false m e) (inf true) s l = absurd (true≢false (sym l))
above_no_sign (fin false m e) (inf false) s l = refl
above_no_sign (fin false m e) (fin true n d) s l = absurd (true≢false (sym l))
above_no_sign (fin false m e) (fin false n d) s l = refl

sum_has_no_sign : (a b : Float) → sign_of a ≡ false → sign_of b ≡ false → sign_of (a ⊕ b) ≡ false
unfolding add sum sign_of
sum_has_no_sign nan b p q = refl
sum_has_no_sign (inf s) nan p q = refl
sum_has_no_sign (inf s) (inf t) p q = rw (p, q)
sum_has_no_sign (inf s) (fin t n d) p q = p
sum_has_no_sign (fin s m e) nan p q = refl
sum_has_no_sign (fin s m e) (inf t) p q = q
sum_has_no_sign (fin s m e) (fin t n d) p q = rw (p, q) (sign_of_rounded false (m * up e * down d + n * up d * down e) (down e * down d))

bounded_has_no_sign : (a b h : Float) → sign_of a ≡ false → sign_of b ≡ false → sign_of (bounded_of a b h) ≡ false
unfolding bounded_of
bounded_has_no_sign a b h p q = go (lt h (a ⊕ b)) (lt a h) refl
  where
    go : (t u : Bool) → lt a h ≡ u → sign_of (cond t (cond u h a) (a ⊕ b)) ≡ false
    go true true l = above_no_sign a h p l
    go true false l = p
    go false u l = sum_has_no_sign a b p q

-- what holds of both parts holds of the larger and of the smaller
of_larger : (P : Float → Type 0) (a b : Float) → P a → P b → P (larger a b)
unfolding larger
of_larger P a b p q = go (lt a b)
  where
    go : (t : Bool) → P (cond t b a)
    go true = q
    go false = p

of_smaller : (P : Float → Type 0) (a b : Float) → P a → P b → P (smaller a b)
unfolding smaller
of_smaller P a b p q = go (lt a b)
  where
    go : (t : Bool) → P (cond t a b)
    go true = p
    go false = q

NoSign : Float → Type 0
NoSign v = sign_of v ≡ false

pub never_negative : (x y : Float) → sign_of (hypot_of x y) ≡ false
unfolding hypot_of sign_of NoSign
never_negative x y = go (infinite x || infinite y)
  where
    a : Float
    a = larger (abs_of x) (abs_of y)

    b : Float
    b = smaller (abs_of x) (abs_of y)

    go : (t : Bool) → sign_of (cond t (inf false) (pair_of a b)) ≡ false
    go true = refl
    go false =
        bounded_has_no_sign a b (length_of a b)
        (of_larger NoSign (abs_of x) (abs_of y) (abs_is_not_negative x) (abs_is_not_negative y))
        (of_smaller NoSign (abs_of x) (abs_of y) (abs_is_not_negative x) (abs_is_not_negative y))

-- ---- NaN

below_is_no_nan : (x y : Float) → lt x y ≡ true → is_nan x ≡ false
unfolding lt is_nan
below_is_no_nan nan y h = absurd (true≢false (sym h))
below_is_no_nan (inf s) y h = refl
below_is_no_nan (fin s m e) y h = refl

bounded-nan : (a b h : Float) → sign_of a ≡ false → sign_of b ≡ false → infinite a ≡ false → infinite b ≡ false → is_nan (bounded_of a b h) ≡ (is_nan a || is_nan b)
unfolding bounded_of add sum sign_of infinite is_nan
bounded-nan nan b h p q i j = rw (not_below_nan h)
bounded-nan (inf s) b h p q i j = absurd (true≢false i)
bounded-nan (fin s m e) nan h p q i j = rw (not_below_nan h)
bounded-nan (fin s m e) (inf t) h p q i j = absurd (true≢false j)
bounded-nan (fin true m e) (fin t n d) h p q i j = absurd (true≢false p)
bounded-nan (fin false m e) (fin true n d) h p q i j = absurd (true≢false q)
bounded-nan (fin false m e) (fin false n d) h p q i j = go (lt h total) (lt (fin false m e) h) refl
  where
    total : Float
    total = round binary64 false (m * up e * down d + n * up d * down e) (down e * down d)

    go : (t u : Bool) → lt h total ≡ t → is_nan (cond t (cond u h (fin false m e)) total) ≡ false
    go true true l = below_is_no_nan h total l
    go true false l = refl
    go false u l = rounded_is_no_nan false (m * up e * down d + n * up d * down e) (down e * down d)

pair_nan : (p q : Float) → sign_of p ≡ false → sign_of q ≡ false → infinite p ≡ false → infinite q ≡ false
    → is_nan (pair_of (larger p q) (smaller p q)) ≡ (is_nan p || is_nan q)
unfolding larger smaller
pair_nan p q sp sq ip iq = go (lt p q)
  where
    go : (t : Bool) → is_nan (pair_of (cond t q p) (cond t p q)) ≡ (is_nan p || is_nan q)
    go true = bounded-nan q p (length_of q p) sq sp iq ip ∙ or_comm (is_nan q) (is_nan p)
    go false = bounded-nan p q (length_of p q) sp sq ip iq

infinite_of_abs : (x : Float) → infinite (abs_of x) ≡ infinite x
unfolding infinite neg sign_of
infinite_of_abs nan = refl
infinite_of_abs (inf true) = refl
infinite_of_abs (inf false) = refl
infinite_of_abs (fin true m e) = refl
infinite_of_abs (fin false m e) = refl

nan_beside_no_infinity : (x y : Float) → infinite x ≡ false → infinite y ≡ false → is_nan (hypot_of x y) ≡ (is_nan x || is_nan y)
unfolding hypot_of
nan_beside_no_infinity x y i j =
    rw (i, j)
    (pair_nan (abs_of x) (abs_of y) (abs_is_not_negative x) (abs_is_not_negative y) (infinite_of_abs x ∙ i) (infinite_of_abs y ∙ j)
    ∙ rw (nan_of_abs x, nan_of_abs y) refl)

-- NaN exactly where a part is NaN and neither is infinite
pub nan_exactly_if_a_part_is_and_none_infinite : (x y : Float) → is_nan (hypot_of x y) ≡ ((is_nan x || is_nan y) && not (infinite x || infinite y))
unfolding hypot_of infinite is_nan
nan_exactly_if_a_part_is_and_none_infinite (inf s) y = sym (and-false (is_nan y))
nan_exactly_if_a_part_is_and_none_infinite nan (inf t) = refl
nan_exactly_if_a_part_is_and_none_infinite (fin s m e) (inf t) = refl
nan_exactly_if_a_part_is_and_none_infinite nan nan = nan_beside_no_infinity nan nan refl refl
nan_exactly_if_a_part_is_and_none_infinite nan (fin t n d) = nan_beside_no_infinity nan (fin t n d) refl refl
nan_exactly_if_a_part_is_and_none_infinite (fin s m e) nan = nan_beside_no_infinity (fin s m e) nan refl refl
nan_exactly_if_a_part_is_and_none_infinite (fin s m e) (fin t n d) = nan_beside_no_infinity (fin s m e) (fin t n d) refl refl

-- ---- in either order

-- two magnitudes of which neither is below the other are one number
level_magnitudes : (p q : Float) → T (fits binary64 p) → T (fits binary64 q) → sign_of p ≡ false → sign_of q ≡ false → infinite p ≡ false → infinite q ≡ false
    → is_nan p ≡ false → is_nan q ≡ false → lt p q ≡ false → lt q p ≡ false → p ≡ q
unfolding lt sign_of infinite is_nan
level_magnitudes nan q fp fq sp sq ip iq np nq l g = absurd (true≢false np)
level_magnitudes (inf s) q fp fq sp sq ip iq np nq l g = absurd (true≢false ip)
level_magnitudes (fin s m e) nan fp fq sp sq ip iq np nq l g = absurd (true≢false nq)
level_magnitudes (fin s m e) (inf t) fp fq sp sq ip iq np nq l g = absurd (true≢false iq)
level_magnitudes (fin true m e) (fin t n d) fp fq sp sq ip iq np nq l g = absurd (true≢false sp)
level_magnitudes (fin false m e) (fin true n d) fp fq sp sq ip iq np nq l g = absurd (true≢false sq)
level_magnitudes (fin false m e) (fin false n d) fp fq sp sq ip iq np nq l g =
    one_value_one_number false m n e d fp fq
    (le_antisymm (ltb-false (n * up d * down e) (m * up e * down d) g) (ltb-false (m * up e * down d) (n * up d * down e) l))

is_the_nan : (x : Float) → is_nan x ≡ true → x ≡ nan
unfolding is_nan
is_the_nan nan h = refl
is_the_nan (inf s) h = absurd (true≢false (sym h))
is_the_nan (fin s m e) h = absurd (true≢false (sym h))

-- the order of the parts matters neither where one is below the other, nor where one is NaN, nor
-- where both are one number
pair_symmetric : (p q : Float) → T (fits binary64 p) → T (fits binary64 q) → sign_of p ≡ false → sign_of q ≡ false → infinite p ≡ false → infinite q ≡ false
    → pair_of (larger p q) (smaller p q) ≡ pair_of (larger q p) (smaller q p)
unfolding larger smaller
pair_symmetric p q fp fq sp sq ip iq = go (lt p q) (lt q p) (is_nan p) (is_nan q) refl refl refl refl
  where
    nan-pair : (a b : Float) → sign_of a ≡ false → sign_of b ≡ false → infinite a ≡ false → infinite b ≡ false → (is_nan a || is_nan b) ≡ true → pair_of a b ≡ nan
    nan-pair a b sa sb ia ib h = is_the_nan (pair_of a b) (bounded-nan a b (length_of a b) sa sb ia ib ∙ h)

    go : (t u v w : Bool) → lt p q ≡ t → lt q p ≡ u → is_nan p ≡ v → is_nan q ≡ w → pair_of (cond t q p) (cond t p q) ≡ pair_of (cond u p q) (cond u q p)
    go true false v w l g np nq = refl
    go false true v w l g np nq = refl
    go true true v w l g np nq = absurd (true≢false (sym g ∙ one_way p q l))
    go false false true w l g np nq = nan-pair p q sp sq ip iq (rw np) ∙ sym (nan-pair q p sq sp iq ip (rw np (or-true (is_nan q))))
    go false false false true l g np nq = nan-pair p q sp sq ip iq (rw (np, nq)) ∙ sym (nan-pair q p sq sp iq ip (rw nq))
    go false false false false l g np nq = let e = level_magnitudes p q fp fq sp sq ip iq np nq l g in rw e

pub symmetric : (x y : Float) → T (fits binary64 x) → T (fits binary64 y) → hypot_of x y ≡ hypot_of y x
unfolding hypot_of
symmetric x y fx fy = go (infinite x) (infinite y) refl refl
  where
    pair : Float → Float → Float
    pair a b = pair_of (larger (abs_of a) (abs_of b)) (smaller (abs_of a) (abs_of b))

    go : (t u : Bool) → infinite x ≡ t → infinite y ≡ u → cond (t || u) (inf false) (pair x y) ≡ cond (u || t) (inf false) (pair y x)
    go true true i j = refl
    go true false i j = refl
    go false true i j = refl
    go false false i j =
        pair_symmetric (abs_of x) (abs_of y) (abs_fits x fx) (abs_fits y fy) (abs_is_not_negative x) (abs_is_not_negative y) (infinite_of_abs x ∙ i) (infinite_of_abs y ∙ j)

-- ---- with a zero

plus_zero : (m : ℕ) (e : ℤ) → T (fits binary64 (fin false m e)) → fin false m e ⊕ bits 0 ≡ fin false m e
unfolding add sum of_bits
plus_zero m e h =
    ap (λ (w : ℕ). round binary64 false (w + 0 * 1 * down e) (down e * 1)) (mul-one (m * up e))
    ∙ ap (λ (w : ℕ). round binary64 false (m * up e + w) (down e * 1)) (zero-mul (down e))
    ∙ ap (λ (w : ℕ). round binary64 false w (down e * 1)) (add-zero (m * up e))
    ∙ ap (λ (w : ℕ). round binary64 false (m * up e) w) (mul-one (down e))
    ∙ rounds_to_itself false m e h

-- bounds that are one number leave nothing between them
no_room : (a b h : Float) → a ⊕ b ≡ a → bounded_of a b h ≡ a
unfolding bounded_of
no_room a b h e = rw e (go (lt h a) (lt a h) refl refl)
  where
    go : (t u : Bool) → lt h a ≡ t → lt a h ≡ u → cond t (cond u h a) a ≡ a
    go true true l g = absurd (true≢false (sym g ∙ one_way h a l))
    go true false l g = refl
    go false u l g = refl

magnitude_with_zero : (m : ℕ) (e : ℤ) → T (fits binary64 (fin false m e)) → pair_of (larger (fin false m e) (bits 0)) (smaller (fin false m e) (bits 0)) ≡ fin false m e
unfolding larger smaller
magnitude_with_zero m e h = rw (not_below_zero m e) (no_room (fin false m e) (bits 0) (length_of (fin false m e) (bits 0)) (plus_zero m e h))

-- the length of x and +0 is |x|
pub with_zero_is_the_magnitude : (x : Float) → T (fits binary64 x) → hypot_of x (bits 0) ≡ abs_of x
unfolding hypot_of infinite sign_of neg of_bits is_nan
with_zero_is_the_magnitude nan h = is_the_nan (hypot_of nan (bits 0)) (nan_beside_no_infinity nan (bits 0) refl refl)
with_zero_is_the_magnitude (inf true) h = refl
with_zero_is_the_magnitude (inf false) h = refl
with_zero_is_the_magnitude (fin true m e) h = magnitude_with_zero m e (neg-fits binary64 (fin true m e) h)
with_zero_is_the_magnitude (fin false m e) h = magnitude_with_zero m e h

-- of two zeros, whatever their signs, it is +0
pub of_two_zeros_is_plus_zero : (s t : Bool) → hypot_of (fin s 0 (pos 0)) (fin t 0 (pos 0)) ≡ bits 0
unfolding sign_of neg fits of_bits
of_two_zeros_is_plus_zero true false = with_zero_is_the_magnitude (fin true 0 (pos 0)) tt
of_two_zeros_is_plus_zero false false = with_zero_is_the_magnitude (fin false 0 (pos 0)) tt
of_two_zeros_is_plus_zero true true = sign_of_second_does_not_matter (fin true 0 (pos 0)) (fin false 0 (pos 0)) ∙ with_zero_is_the_magnitude (fin true 0 (pos 0)) tt
of_two_zeros_is_plus_zero false true = sign_of_second_does_not_matter (fin false 0 (pos 0)) (fin false 0 (pos 0)) ∙ with_zero_is_the_magnitude (fin false 0 (pos 0)) tt

-- ---- between the larger part and the sum of both

at_most_itself : (x : Float) → is_nan x ≡ false → le x x ≡ true
unfolding le lt eq is_nan
at_most_itself nan h = absurd (true≢false h)
at_most_itself (inf true) h = refl
at_most_itself (inf false) h = refl
at_most_itself (fin true m e) h = rw (le-ltb (m * up e * down e) (m * up e * down e) (le_of_eq refl), eq-eqb (m * up e * down e) (m * up e * down e) refl)
at_most_itself (fin false m e) h = rw (le-ltb (m * up e * down e) (m * up e * down e) (le_of_eq refl), eq-eqb (m * up e * down e) (m * up e * down e) refl)

at_most_if_below : (x y : Float) → lt x y ≡ true → le x y ≡ true
unfolding le
at_most_if_below x y h = rw h

module _ (m n : ℕ) (e d : ℤ) (fits-first : T (fits binary64 (fin false m e))) where
  abbrev first : Float
  first = fin false m e

  abbrev total : Float
  total = first ⊕ fin false n d

  total-is-no-nan : is_nan total ≡ false
  unfolding add sum
  total-is-no-nan = rounded_is_no_nan false (m * up e * down d + n * up d * down e) (down e * down d)

  first-is-at-most-total : le first total ≡ true
  unfolding add sum
  first-is-at-most-total =
      is_true (le first total)
      (subst (λ (v : Float). T (le v total)) (rounds_to_itself false m e fits-first)
      (round_mono binary64 (m * up e) (down e) (m * up e * down d + n * up d * down e) (down e * down d) (down_pos e) (mul-pos (down_pos e) (down_pos d))
      (le_trans (le_of_eq (ap (λ (w : ℕ). m * up e * w) (mul_comm (down e) (down d)) ∙ sym (mul_assoc (m * up e) (down d) (down e))))
      (mul-le-mul_right (down e) (le-add_right (m * up e * down d) (n * up d * down e))))))

  bounded-from-below : (h : Float) → le first (bounded_of first (fin false n d) h) ≡ true
  unfolding bounded_of is_nan
  bounded-from-below h = go (lt h total) (lt first h) refl
    where
      go : (t u : Bool) → lt first h ≡ u → le first (cond t (cond u h first) total) ≡ true
      go true true l = at_most_if_below first h l
      go true false l = at_most_itself first refl
      go false u l = first-is-at-most-total

  bounded-from-above : (h : Float) → le (bounded_of first (fin false n d) h) total ≡ true
  unfolding bounded_of
  bounded-from-above h = go (lt h total) (lt first h) refl
    where
      go : (t u : Bool) → lt h total ≡ t → le (cond t (cond u h first) total) total ≡ true
      go true true l = at_most_if_below h total l
      go true false l = first-is-at-most-total
      go false u l = at_most_itself total total-is-no-nan

-- the same of two magnitudes in their order
pair_bounds : (m n : ℕ) (e d : ℤ) → T (fits binary64 (fin false m e)) → T (fits binary64 (fin false n d))
    → (le (larger (fin false m e) (fin false n d)) (pair_of (larger (fin false m e) (fin false n d)) (smaller (fin false m e) (fin false n d))) ≡ true)
    × (le (pair_of (larger (fin false m e) (fin false n d)) (smaller (fin false m e) (fin false n d))) (fin false m e ⊕ fin false n d) ≡ true)
unfolding larger smaller sign_of
pair_bounds m n e d f g = go (lt p q)
  where
    p : Float
    p = fin false m e

    q : Float
    q = fin false n d

    go : (t : Bool) → (le (cond t q p) (pair_of (cond t q p) (cond t p q)) ≡ true) × (le (pair_of (cond t q p) (cond t p q)) (p ⊕ q) ≡ true)
    go true = (bounded-from-below n m d e g (length_of q p), rw (sum_in_either_order p q refl refl) (bounded-from-above n m d e g (length_of q p)))
    go false = (bounded-from-below m n e d f (length_of p q), bounded-from-above m n e d f (length_of p q))

-- Of finite parts the length is never below the larger magnitude, nor above the rounded sum of
-- both: nothing overflows or underflows on the way to lose that.
pub at_least_the_larger_part : (x y : Float) → T (fits binary64 x) → T (fits binary64 y) → T (finite x) → T (finite y)
    → le (larger (abs_of x) (abs_of y)) (hypot_of x y) ≡ true
unfolding hypot_of infinite sign_of neg
at_least_the_larger_part nan y f g i j = elim i [ ]
at_least_the_larger_part (inf _) y f g i j = elim i [ ]
at_least_the_larger_part (fin false m e) nan f g i j = elim j [ ]
at_least_the_larger_part (fin false m e) (inf _) f g i j = elim j [ ]
at_least_the_larger_part (fin true m e) nan f g i j = elim j [ ]
at_least_the_larger_part (fin true m e) (inf _) f g i j = elim j [ ]
at_least_the_larger_part (fin true m e) (fin true n d) f g i j = (pair_bounds m n e d (neg-fits binary64 (fin true m e) f) (neg-fits binary64 (fin true n d) g)).0
at_least_the_larger_part (fin true m e) (fin false n d) f g i j = (pair_bounds m n e d (neg-fits binary64 (fin true m e) f) g).0
at_least_the_larger_part (fin false m e) (fin true n d) f g i j = (pair_bounds m n e d f (neg-fits binary64 (fin true n d) g)).0
at_least_the_larger_part (fin false m e) (fin false n d) f g i j = (pair_bounds m n e d f g).0

pub at_most_the_sum_of_the_parts : (x y : Float) → T (fits binary64 x) → T (fits binary64 y) → T (finite x) → T (finite y)
    → le (hypot_of x y) (abs_of x ⊕ abs_of y) ≡ true
unfolding hypot_of infinite sign_of neg
at_most_the_sum_of_the_parts nan y f g i j = elim i [ ]
at_most_the_sum_of_the_parts (inf _) y f g i j = elim i [ ]
at_most_the_sum_of_the_parts (fin false m e) nan f g i j = elim j [ ]
at_most_the_sum_of_the_parts (fin false m e) (inf _) f g i j = elim j [ ]
at_most_the_sum_of_the_parts (fin true m e) nan f g i j = elim j [ ]
at_most_the_sum_of_the_parts (fin true m e) (inf _) f g i j = elim j [ ]
at_most_the_sum_of_the_parts (fin true m e) (fin true n d) f g i j = (pair_bounds m n e d (neg-fits binary64 (fin true m e) f) (neg-fits binary64 (fin true n d) g)).1
at_most_the_sum_of_the_parts (fin true m e) (fin false n d) f g i j = (pair_bounds m n e d (neg-fits binary64 (fin true m e) f) g).1
at_most_the_sum_of_the_parts (fin false m e) (fin true n d) f g i j = (pair_bounds m n e d f (neg-fits binary64 (fin true n d) g)).1
at_most_the_sum_of_the_parts (fin false m e) (fin false n d) f g i j = (pair_bounds m n e d f g).1
