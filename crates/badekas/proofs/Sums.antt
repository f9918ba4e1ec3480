-- Sums and differences with a zero, for a number that binary64 holds. x - (+0) is x. x + (+0) is x
-- except where x is -0, and then it is +0. Assumes nothing.
use mathlib.Core.Path.{◌≡◌, refl, ap}
use Prim.Native.Nat.{ℕ, zero, suc, ◌+◌, ◌*◌, ◌<◌}
use native.Mathlib.Nat.{mul-one, one-mul, zero-mul, zero-add, add-zero, sub-zero, mul-pos, zero-lt-suc, not-suc-le-zero}
use mathlib.Core.Bool.{Bool, true, false, ◌&&◌, true≢false}
use lib.Dec.{T, ltb, lt→ltb, ltb→lt}
use lib.Pow.{pow_pos}
use lib.IntN.{ℤ, pos, negsuc}
use lib.Ieee.{Float, nan, inf, fin, binary64, fits, up, down, neg, add, sub, sum, of_bits, round}
use Rattle.floats.specs.Binary64.{◌⊕◌, ◌⊖◌, bits}
use Rattle.floats.proofs.Values.{rounds_to_itself, zero_exponent}

-- x is -0
abbrev pub minus_zero : Float → Bool
minus_zero nan = false
minus_zero (inf s) = false
minus_zero (fin s zero e) = s
minus_zero (fin s (suc m) e) = false

-- a number plus a zero of its own sign, before it is rounded: the number
same_sign : (s : Bool) (m : ℕ) (e : ℤ) → T (fits binary64 (fin s m e))
    → round binary64 s (m * up e * 1 + 0 * 1 * down e) (down e * 1) ≡ fin s m e
same_sign s m e h =
    rw (zero-mul (down e), add-zero (m * up e * 1), mul-one (m * up e), mul-one (down e)) (rounds_to_itself s m e h)

none_below : (n : ℕ) → ltb n 0 ≡ false
none_below n = false_of (ltb n 0) (λ (h : T (ltb n 0)). not-suc-le-zero (ltb→lt n 0 h))
  where
    false_of : (b : Bool) → (T b → ⊥) → b ≡ false
    false_of true h = absurd (h tt)
    false_of false h = refl

true_of : (b : Bool) → T b → b ≡ true
true_of true h = refl
true_of false h = absurd h

up_pos : (e : ℤ) → 0 < up e
up_pos (pos k) = pow_pos k
up_pos (negsuc k) = zero-lt-suc 0

above : (m : ℕ) (e : ℤ) → ltb 0 (suc m * up e) ≡ true
above m e =
    true_of (ltb 0 (suc m * up e)) (lt→ltb 0 (suc m * up e) (mul-pos (zero-lt-suc m) (up_pos e)))

pub less_zero : (x : Float) → T (fits binary64 x) → x ⊖ bits 0 ≡ x
unfolding sub add neg sum of_bits
less_zero nan h = refl
less_zero (inf s) h = refl
less_zero (fin true m e) h = same_sign true m e h
less_zero (fin false m e) h =
    rw (
      zero-mul (down e),
      none_below (m * up e * 1),
      sub-zero (m * up e * 1),
      mul-one (m * up e),
      mul-one (down e),
    ) (rounds_to_itself false m e h)

pub plus_zero : (x : Float) → T (fits binary64 x) → minus_zero x ≡ false → x ⊕ bits 0 ≡ x
unfolding add sum of_bits
plus_zero nan h z = refl
plus_zero (inf s) h z = refl
plus_zero (fin false m e) h z = same_sign false m e h
plus_zero (fin true zero e) h z = absurd (true≢false z)
plus_zero (fin true (suc m) e) h z =
    rw (
      zero-mul (down e),
      none_below (suc m * up e * 1),
      sub-zero (suc m * up e * 1),
      mul-one (suc m * up e),
      mul-one (down e),
      above m e,
    ) (rounds_to_itself true (suc m) e h)

-- a zero of either sign plus a number other than -0 is that number
zero_plus : (s : Bool) (y : Float) → T (fits binary64 y) → minus_zero y ≡ false → fin s zero (pos 0) ⊕ y ≡ y
unfolding add sum
zero_plus s nan h z = refl
zero_plus s (inf u) h z = refl
zero_plus s (fin true zero e) h z = absurd (true≢false z)
zero_plus true (fin true (suc m) e) h z =
    rw (zero-mul (down e), zero-add (suc m * up e * 1), mul-one (suc m * up e), one-mul (down e)) (rounds_to_itself true (suc m) e h)
zero_plus false (fin true (suc m) e) h z =
    rw (
      zero-mul (down e),
      sub-zero (suc m * up e * 1),
      mul-one (suc m * up e),
      one-mul (down e),
      above m e,
    ) (rounds_to_itself true (suc m) e h)
zero_plus false (fin false m e) h z =
    rw (zero-mul (down e), zero-add (m * up e * 1), mul-one (m * up e), one-mul (down e)) (rounds_to_itself false m e h)
zero_plus true (fin false zero e) h z =
    rw (zero_exponent false e h) (rounds_to_itself false zero (pos 0) (unfold fits in tt))
zero_plus true (fin false (suc m) e) h z =
    rw (
      zero-mul (down e),
      sub-zero (suc m * up e * 1),
      mul-one (suc m * up e),
      one-mul (down e),
      above m e,
    ) (rounds_to_itself false (suc m) e h)

zeros : fin true zero (pos 0) ⊕ bits 0 ≡ fin false zero (pos 0)
unfolding add sum of_bits round
zeros = refl

-- (x + (+0)) + y is x + y, except where both are -0: then it is +0 and not -0
pub zero-between : (x y : Float) → T (fits binary64 x) → T (fits binary64 y) → (minus_zero x && minus_zero y) ≡ false
    → x ⊕ bits 0 ⊕ y ≡ x ⊕ y
zero-between nan y f g z = ap (λ (w : Float). w ⊕ y) (plus_zero nan f refl)
zero-between (inf s) y f g z = ap (λ (w : Float). w ⊕ y) (plus_zero (inf s) f refl)
zero-between (fin s (suc m) e) y f g z = ap (λ (w : Float). w ⊕ y) (plus_zero (fin s (suc m) e) f refl)
zero-between (fin false zero e) y f g z = ap (λ (w : Float). w ⊕ y) (plus_zero (fin false zero e) f refl)
zero-between (fin true zero e) y f g z =
    rw (zero_exponent true e f, zeros, zero_plus false y g z, zero_plus true y g z)
