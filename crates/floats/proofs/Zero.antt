-- Comparing with zero, and what a number less itself is. Assumes nothing.
use mathlib.Core.Path.{◌≡◌, refl, sym, ap, ◌∙◌}
use Prim.Native.Nat.{ℕ, zero, suc, ◌+◌, ◌*◌, ◌<◌}
use native.Mathlib.Nat.{zero-mul, mul-pos, zero-lt-suc, le_refl, sub_self}
use native.Mathlib.Omega.{arith}
use mathlib.Core.Bool.{Bool, true, false, not, true≢false}
use lib.IntN.{ℤ}
use lib.Ieee.{Float, nan, inf, fin, binary64, lt, eq, sub, add, sum, round, size, up, down, of_bits}
use lib.Ieee.Fits.{up_pos, down_pos}
use lib.Ieee.Scale.{finite, round_same}
use borrow.Author.Tests.{lt-ltb, le-ltb, ne_eqb}
use Rattle.floats.specs.Binary64.{bits, ◌⊖◌}
use Rattle.floats.specs.Number.{sign_of}

some : (m : ℕ) (e : ℤ) → 0 < suc m * up e * 1
some m e = mul-pos (mul-pos (zero-lt-suc m) (up_pos e)) (zero-lt-suc 0)

none : (e : ℤ) → 0 * 1 * down e ≡ 0
none e = zero-mul (down e)

-- a number is equal to zero exactly where its significand is 0
pub equals_zero : (s : Bool) (e : ℤ) → eq (fin s zero e) (bits 0) ≡ true
unfolding eq of_bits
equals_zero true e = rw (zero-mul (up e), none e)
equals_zero false e = rw (zero-mul (up e), none e)

pub differs_from_zero : (s : Bool) (m : ℕ) (e : ℤ) → eq (fin s (suc m) e) (bits 0) ≡ false
unfolding eq of_bits
differs_from_zero s m e = rw (ne_eqb (suc m * up e * 1) (0 * 1 * down e) (λ h. let p = some m e in let q = none e in omega arith))

pub not_below_zero : (m : ℕ) (e : ℤ) → lt (fin false m e) (bits 0) ≡ false
unfolding lt of_bits
not_below_zero m e = le-ltb (m * up e * 1) (0 * 1 * down e) (let q = none e in omega arith)

pub below_zero : (m : ℕ) (e : ℤ) → lt (fin true (suc m) e) (bits 0) ≡ true
unfolding lt of_bits
below_zero m e = lt-ltb 0 (suc m * up e * 1 + 0 * 1 * down e) (let p = some m e in omega arith)

-- of a number that is not zero, being below zero tells the sign
pub sign_of_other : (x : Float) → eq x (bits 0) ≡ false → lt x (bits 0) ≡ sign_of x
unfolding eq lt of_bits sign_of
sign_of_other nan h = refl
sign_of_other (inf s) h = refl
sign_of_other (fin true zero e) h = absurd (true≢false (sym (equals_zero true e) ∙ h))
sign_of_other (fin true (suc m) e) h = below_zero m e
sign_of_other (fin false m e) h = not_below_zero m e

-- zero over anything above zero rounds to a zero
no_units : eq (round binary64 false 0 1) (bits 0) ≡ true
unfolding eq round size of_bits
no_units = refl

no_part : (d : ℕ) → 0 < d → eq (round binary64 false 0 d) (bits 0) ≡ true
no_part d h =
    ap (λ (r : Float). eq r (bits 0)) (round_same binary64 false 0 d 0 1 h (zero-lt-suc 0) (zero-mul 1 ∙ sym (zero-mul d))) ∙ no_units

-- ±a / d less itself
opposites : (s : Bool) (a d : ℕ) → sum binary64 s a (not s) a d ≡ round binary64 false 0 d
unfolding sum
opposites true a d = rw (le-ltb a a (le_refl a), sub_self a)
opposites false a d = rw (le-ltb a a (le_refl a), sub_self a)

less_itself : (s : Bool) (a d : ℕ) → 0 < d → eq (sum binary64 s a (not s) a d) (bits 0) ≡ true
less_itself s a d h = ap (λ (r : Float). eq r (bits 0)) (opposites s a d) ∙ no_part d h

-- a number less itself is zero exactly where it is finite
pub itself_less_itself : (x : Float) → eq (x ⊖ x) (bits 0) ≡ finite x
unfolding eq sub add
itself_less_itself nan = refl
itself_less_itself (inf true) = refl
itself_less_itself (inf false) = refl
itself_less_itself (fin s m e) = less_itself s (m * up e * down e) (down e * down e) (mul-pos (down_pos e) (down_pos e))
