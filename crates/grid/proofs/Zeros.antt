-- Products with 1 and 0, and sums with a zero: what a corner's four terms come to. Once a number
-- that binary64 holds is that number; none of it is a zero of its sign; and a zero added to another
-- number leaves it, while two zeros make -0 only where both are. Assumes nothing.
use Rattle.std.proofs.Common.{◌≡◌, ℕ, zero, suc, ◌-◌, ◌*◌, ◌<◌, Bool, true, false, cond, ◌&&◌, T, eqb, ℤ, pos, sym, refl, ap, ◌∙◌, true≢false, le_refl, add-zero, zero-lt-suc, mul-pos, one-mul, zero-add, zero-mul, mul-one, arith, ltb-true, le-ltb, lt-ltb, ne_eqb}
use native.Mathlib.Nat.{sub-zero, sub_self}
use lib.Ieee.{Float, nan, inf, fin, binary64, fits, round, size, units, odd, of_bits, add, sub, mul, div, sum, lt, up, down}
use lib.Ieee.Fits.{up_pos, down_pos}
use lib.Ieee.Scale.{finite, round_same}
use Rattle.floats.specs.Binary64.{◌⊕◌, ◌⊖◌, ◌⊗◌, ◌⊘◌, bits}
use Rattle.floats.specs.Number.{sign_of}
use Rattle.floats.proofs.Values.{rounds_to_itself, zero_exponent}
use Rattle.grid.specs.Lookup.{one}

-- a zero of a sign
abbrev pub zero_of : Bool → Float
zero_of s = fin s 0 (pos 0)

-- a finite number that binary64 holds
pub record Held (x : Float) : Type 0 where
  pub holds : T (fits binary64 x)
  pub whole : finite x ≡ true

-- ---- rounding nothing

no_units : (s : Bool) → round binary64 s 0 1 ≡ zero_of s
unfolding round size units odd
no_units true = refl
no_units false = refl

pub no_part : (s : Bool) (a d : ℕ) → a ≡ 0 → 0 < d → round binary64 s a d ≡ zero_of s
no_part s a d e h =
    ap (λ (n : ℕ). round binary64 s n d) e ∙ round_same binary64 s 0 d 0 1 h (zero-lt-suc 0) (zero-mul 1 ∙ sym (zero-mul d)) ∙ no_units s

pub itself_less_itself : (x : Float) → finite x ≡ true → x ⊖ x ≡ bits 0
unfolding sub add sum of_bits
itself_less_itself nan h = absurd (true≢false (sym h))
itself_less_itself (inf s) h = absurd (true≢false (sym h))
itself_less_itself (fin true m e) h =
    rw (le-ltb (m * up e * down e) (m * up e * down e) (le_refl (m * up e * down e)))
    (no_part false (m * up e * down e - m * up e * down e) (down e * down e) (sub_self (m * up e * down e)) (mul-pos (down_pos e) (down_pos e)))
itself_less_itself (fin false m e) h =
    rw (le-ltb (m * up e * down e) (m * up e * down e) (le_refl (m * up e * down e)))
    (no_part false (m * up e * down e - m * up e * down e) (down e * down e) (sub_self (m * up e * down e)) (mul-pos (down_pos e) (down_pos e)))

pub no_choice : (b : Bool) (x y : Float) → b ≡ false → cond b x y ≡ y
no_choice true x y h = absurd (true≢false h)
no_choice false x y h = refl

pub zero_over : (y : Float) → finite y ≡ true → lt (bits 0) y ≡ true → bits 0 ⊘ y ≡ bits 0
unfolding div lt of_bits
zero_over nan f h = absurd (true≢false (sym f))
zero_over (inf s) f h = absurd (true≢false (sym f))
zero_over (fin true n d) f h = absurd (true≢false (sym h))
zero_over (fin false zero d) f h = absurd (none (ltb-true (0 * 1 * down d) (0 * up d * 1) h))
  where
    none : 0 * 1 * down d < 0 * up d * 1 → ⊥
    none g = omega arith
zero_over (fin false (suc n) d) f h =
    no_choice (eqb (suc n) 0) _ _ (ne_eqb (suc n) 0 (λ q. omega (arith, q)))
    ∙ no_part false (0 * 1 * down d) (suc n * up d * 1) (zero-mul (down d)) (mul-pos (mul-pos (zero-lt-suc n) (up_pos d)) (zero-lt-suc 0))

-- ---- a term

pub once : (x : Float) → Held x → one ⊗ x ≡ x
unfolding mul of_bits
once nan h = absurd (true≢false (sym h.whole))
once (inf s) h = absurd (true≢false (sym h.whole))
once (fin true m e) h = rw (one-mul (m * up e), one-mul (down e)) (rounds_to_itself true m e h.holds)
once (fin false m e) h = rw (one-mul (m * up e), one-mul (down e)) (rounds_to_itself false m e h.holds)

pub none : (x : Float) → Held x → bits 0 ⊗ x ≡ zero_of (sign_of x)
unfolding mul of_bits sign_of
none nan h = absurd (true≢false (sym h.whole))
none (inf s) h = absurd (true≢false (sym h.whole))
none (fin true m e) h = no_part true (0 * 1 * (m * up e)) (1 * down e) (zero-mul (m * up e)) (mul-pos (zero-lt-suc 0) (down_pos e))
none (fin false m e) h = no_part false (0 * 1 * (m * up e)) (1 * down e) (zero-mul (m * up e)) (mul-pos (zero-lt-suc 0) (down_pos e))

-- ---- a sum

some : (m : ℕ) (e : ℤ) → 0 < suc m * up e
some m e = mul-pos (zero-lt-suc m) (up_pos e)

pub plus_zero : (s t : Bool) (m : ℕ) (e : ℤ) → T (fits binary64 (fin s (suc m) e)) → fin s (suc m) e ⊕ zero_of t ≡ fin s (suc m) e
unfolding add sum
plus_zero true true m e h = rw (zero-mul (down e), mul-one (suc m * up e), mul-one (down e), add-zero (suc m * up e)) (rounds_to_itself true (suc m) e h)
plus_zero false false m e h = rw (zero-mul (down e), mul-one (suc m * up e), mul-one (down e), add-zero (suc m * up e)) (rounds_to_itself false (suc m) e h)
plus_zero true false m e h =
    rw (zero-mul (down e), mul-one (suc m * up e), mul-one (down e), le-ltb (suc m * up e) 0 (omega arith), lt-ltb 0 (suc m * up e) (some m e), sub-zero (suc m * up e))
    (rounds_to_itself true (suc m) e h)
plus_zero false true m e h =
    rw (zero-mul (down e), mul-one (suc m * up e), mul-one (down e), le-ltb (suc m * up e) 0 (omega arith), sub-zero (suc m * up e))
    (rounds_to_itself false (suc m) e h)

pub zero_plus : (s t : Bool) (m : ℕ) (e : ℤ) → T (fits binary64 (fin s (suc m) e)) → zero_of t ⊕ fin s (suc m) e ≡ fin s (suc m) e
unfolding add sum
zero_plus true true m e h = rw (zero-mul (down e), mul-one (suc m * up e), one-mul (down e), zero-add (suc m * up e)) (rounds_to_itself true (suc m) e h)
zero_plus false false m e h = rw (zero-mul (down e), mul-one (suc m * up e), one-mul (down e), zero-add (suc m * up e)) (rounds_to_itself false (suc m) e h)
zero_plus true false m e h =
    rw (zero-mul (down e), mul-one (suc m * up e), one-mul (down e), lt-ltb 0 (suc m * up e) (some m e), sub-zero (suc m * up e)) (rounds_to_itself true (suc m) e h)
zero_plus false true m e h =
    rw (zero-mul (down e), mul-one (suc m * up e), one-mul (down e), lt-ltb 0 (suc m * up e) (some m e), sub-zero (suc m * up e)) (rounds_to_itself false (suc m) e h)

pub two_zeros : (s t : Bool) → zero_of s ⊕ zero_of t ≡ zero_of (s && t)
unfolding add sum round size units odd
two_zeros true true = refl
two_zeros true false = refl
two_zeros false true = refl
two_zeros false false = refl

-- ---- four terms, of which three are zeros

-- x; and of a zero the zero that is -0 just where every term has a minus sign
unfoldable pub corner_of : Float → Bool → Float
corner_of nan minus = nan
corner_of (inf s) minus = inf s
corner_of (fin s zero e) minus = zero_of minus
corner_of (fin s (suc m) e) minus = fin s (suc m) e

pub first_stays : (x : Float) → Held x → (b c d : Bool) → x ⊕ zero_of b ⊕ zero_of c ⊕ zero_of d ≡ corner_of x (sign_of x && b && c && d)
unfolding corner_of sign_of
first_stays nan h b c d = absurd (true≢false (sym h.whole))
first_stays (inf s) h b c d = absurd (true≢false (sym h.whole))
first_stays (fin s zero e) h b c d = rw (zero_exponent s e h.holds, two_zeros s b, two_zeros (s && b) c, two_zeros (s && b && c) d)
first_stays (fin s (suc m) e) h b c d = rw (plus_zero s b m e h.holds, plus_zero s c m e h.holds, plus_zero s d m e h.holds)

pub second_stays : (x : Float) → Held x → (a c d : Bool) → zero_of a ⊕ x ⊕ zero_of c ⊕ zero_of d ≡ corner_of x (a && sign_of x && c && d)
unfolding corner_of sign_of
second_stays nan h a c d = absurd (true≢false (sym h.whole))
second_stays (inf s) h a c d = absurd (true≢false (sym h.whole))
second_stays (fin s zero e) h a c d = rw (zero_exponent s e h.holds, two_zeros a s, two_zeros (a && s) c, two_zeros (a && s && c) d)
second_stays (fin s (suc m) e) h a c d = rw (zero_plus s a m e h.holds, plus_zero s c m e h.holds, plus_zero s d m e h.holds)

pub third_stays : (x : Float) → Held x → (a b d : Bool) → zero_of a ⊕ zero_of b ⊕ x ⊕ zero_of d ≡ corner_of x (a && b && sign_of x && d)
unfolding corner_of sign_of
third_stays nan h a b d = absurd (true≢false (sym h.whole))
third_stays (inf s) h a b d = absurd (true≢false (sym h.whole))
third_stays (fin s zero e) h a b d = rw (zero_exponent s e h.holds, two_zeros a b, two_zeros (a && b) s, two_zeros (a && b && s) d)
third_stays (fin s (suc m) e) h a b d = rw (two_zeros a b, zero_plus s (a && b) m e h.holds, plus_zero s d m e h.holds)

pub fourth_stays : (x : Float) → Held x → (a b c : Bool) → zero_of a ⊕ zero_of b ⊕ zero_of c ⊕ x ≡ corner_of x (a && b && c && sign_of x)
unfolding corner_of sign_of
fourth_stays nan h a b c = absurd (true≢false (sym h.whole))
fourth_stays (inf s) h a b c = absurd (true≢false (sym h.whole))
fourth_stays (fin s zero e) h a b c = rw (zero_exponent s e h.holds, two_zeros a b, two_zeros (a && b) c, two_zeros (a && b && c) s)
fourth_stays (fin s (suc m) e) h a b c = rw (two_zeros a b, two_zeros (a && b) c, zero_plus s (a && b && c) m e h.holds)
