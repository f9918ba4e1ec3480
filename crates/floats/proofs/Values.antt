-- Two numbers that binary64 holds and that have one sign and one value are one number; so rounding
-- a number that binary64 holds gives that number. Assumes nothing.
use mathlib.Core.Path.{◌≡◌, refl, sym, ap, ◌∙◌, subst}
use Prim.Native.Nat.{ℕ, zero, suc, ◌+◌, ◌*◌, ◌-◌, ◌/◌, ◌%◌, ◌^◌, ◌≤◌, ◌<◌}
use native.Mathlib.Nat.{mul_assoc, mul_right_comm, mul-one, one-mul, zero-mul, zero-add, mul-lt-mul_of_pos_right, lt_of_lt_of_le, lt_of_le_of_lt, le_trans, le_of_eq, zero-lt-suc, lt_irrefl, lt_of_not-le, le_of_suc-le-suc, pow-succ'}
use native.Mathlib.Omega.{arith}
use mathlib.Core.Bool.{Bool, true, false, cond, not, ◌&&◌, ◌||◌, true≢false}
use lib.Dec.{T, leb, ltb, eqb, eqb→eq, ltb→lt, leb→le, lit≤}
use lib.IntN.{ℤ, pos, negsuc}
use lib.Pow.{pow-add, pow_pos, pow_mono, pow-lt}
use lib.Ieee.{Float, nan, inf, fin, binary64, fits, of_bits, to_bits, is_nan, size, odd, of_fields, round, up, down, le, lt, sub}
use lib.Ieee.Fits.{and_l, and_r, round-fits, neg-fits, down_pos}
use lib.Ieee.Exact.{HasValue, odd_sign, round_exact}
use lib.Ieee.Nearest.{div_same}
use lib.Ieee.Bits.{of_bits-to_bits}
use Rattle.floats.specs.Binary64.{bits, ◌⊖◌}
use Rattle.floats.specs.Number.{sign_of, abs_of}
use Rattle.floats.proofs.Zero.{equals_zero, differs_from_zero, not_below_zero, below_zero}

-- the bits are written from the sign and the value alone
one_pattern : (s : Bool) (m n : ℕ) (e d : ℤ) → m * up e * down d ≡ n * up d * down e → to_bits binary64 (fin s m e) ≡ to_bits binary64 (fin s n d)
unfolding to_bits
one_pattern s m n e d h =
    ap (λ (w : ℕ). cond s 0x8000_0000_0000_0000 0 + (size w - 53) * 0x10_0000_0000_0000 + w / 2 ^ (size w - 53))
    (div_same (m * up e * 2 ^ 1074) (down e) (n * up d * 2 ^ 1074) (down d) (down_pos e) (down_pos d)
    (mul_right_comm (m * up e) (2 ^ 1074) (down d) ∙ ap (λ (w : ℕ). w * 2 ^ 1074) h ∙ mul_right_comm (n * up d) (down e) (2 ^ 1074)))

pub one_value_one_number : (s : Bool) (m n : ℕ) (e d : ℤ) → T (fits binary64 (fin s m e)) → T (fits binary64 (fin s n d)) → m * up e * down d ≡ n * up d * down e → fin s m e ≡ fin s n d
one_value_one_number s m n e d p q h =
    sym (of_bits-to_bits binary64 (fin s m e) p) ∙ ap (λ (w : ℕ). of_bits binary64 w) (one_pattern s m n e d h) ∙ of_bits-to_bits binary64 (fin s n d) q

-- ---- rounding what binary64 holds

pow_le_back : (i j : ℕ) → 2 ^ i ≤ 2 ^ j → i ≤ j
pow_le_back i j h = le_of_suc-le-suc (lt_of_not-le (λ (g : suc j ≤ i). lt_irrefl (2 ^ i) (lt_of_le_of_lt h (pow-lt g))))

-- 2 ^ e is 1 / 1 only for e = 0
twice : (p : ℕ) → 0 < p → 2 * p ≡ 1 → ⊥
twice p h e = omega arith

flat : (e : ℤ) → up e * down e ≡ 1 → e ≡ pos 0
flat (pos zero) h = refl
flat (pos (suc k)) h = absurd (twice (2 ^ k) (pow_pos k) (sym (pow-succ' 2 k) ∙ sym (mul-one (2 ^ suc k)) ∙ h))
flat (negsuc k) h = absurd (twice (2 ^ k) (pow_pos k) (sym (pow-succ' 2 k) ∙ sym (one-mul (2 ^ suc k)) ∙ h))

-- a significand m of 53 digits, at an exponent in reach, is kept
kept : (s : Bool) (m : ℕ) (e : ℤ) → m < 2 ^ 53 → down e ≤ 2 ^ 1074 → m * up e < 2 ^ 1024 * down e → HasValue (round binary64 s (m * up e) (down e)) s (m * up e) (down e)
kept s m (pos k) a b c =
    round_exact binary64 s (m * 2 ^ k) 1 m (k + 1074) (zero-lt-suc 0) a
    (subst (λ (w : ℕ). w < 2 ^ 2098) (same k) (lt_of_lt_of_le (mul-lt-mul_of_pos_right (subst (λ (w : ℕ). m * 2 ^ k < w) (mul-one (2 ^ 1024)) c) (pow_pos 1074)) (le_of_eq refl)))
    (same k ∙ sym (mul-one (m * 2 ^ (k + 1074))))
  where
    same : (k : ℕ) → m * 2 ^ k * 2 ^ 1074 ≡ m * 2 ^ (k + 1074)
    same k = mul_assoc m (2 ^ k) (2 ^ 1074) ∙ ap (λ (w : ℕ). m * w) (sym (pow-add 2 k 1074))
kept s m (negsuc k) a b c =
    let below : suc k ≤ 1074 = pow_le_back (suc k) 1074 b in
    let j = 1074 - suc k in
    let whole : 1074 ≡ j + suc k = omega arith in
    round_exact binary64 s (m * 1) (2 ^ suc k) m j (pow_pos (suc k)) a
    (lt_of_lt_of_le (mul-lt-mul_of_pos_right a (pow_pos j)) (le_trans (le_of_eq (sym (pow-add 2 53 j))) (pow_mono {i = 53 + j} {j = 2098} (omega arith))))
    (ap (λ (w : ℕ). w * 2 ^ 1074) (mul-one m) ∙ ap (λ (w : ℕ). m * 2 ^ w) whole ∙ ap (λ (w : ℕ). m * w) (pow-add 2 j (suc k)) ∙ sym (mul_assoc m (2 ^ j) (2 ^ suc k)))

same_as : (v : Float) (s : Bool) (m : ℕ) (e : ℤ) → T (fits binary64 v) → T (fits binary64 (fin s m e)) → HasValue v s (m * up e) (down e) → v ≡ fin s m e
same_as nan s m e p q h = absurd h
same_as (inf t) s m e p q h = absurd h
same_as (fin t n d) s m e p q h =
    let r : fin t n d ≡ fin s n d = ap (λ (b : Bool). fin b n d) h.0 in
    r ∙ one_value_one_number s n m d e (subst (λ (v : Float). T (fits binary64 v)) r p) q h.1

value : (s : Bool) (m : ℕ) (e : ℤ) → T (fits binary64 (fin s m e)) → HasValue (round binary64 s (m * up e) (down e)) s (m * up e) (down e)
unfolding fits
value s zero e h = rw (flat e (eqb→eq (up e * down e) 1 h)) (kept s zero (pos 0) (pow_pos 53) (lit≤ tt) (lit≤ tt))
value s (suc m) e h =
    let A = eqb (suc m % 2) 1 in
    let B = ltb (suc m) (2 ^ 53) in
    let C = leb (down e) (2 ^ 1074) in
    let D = ltb (suc m * up e) (2 ^ 1024 * down e) in
    kept s (suc m) e
    (ltb→lt (suc m) (2 ^ 53) (and_r A B (and_l (A && B) C (and_l (A && B && C) D h))))
    (leb→le (down e) (2 ^ 1074) (and_r (A && B) C (and_l (A && B && C) D h)))
    (ltb→lt (suc m * up e) (2 ^ 1024 * down e) (and_r (A && B && C) D h))

pub rounds_to_itself : (s : Bool) (m : ℕ) (e : ℤ) → T (fits binary64 (fin s m e)) → round binary64 s (m * up e) (down e) ≡ fin s m e
rounds_to_itself s m e h = same_as (round binary64 s (m * up e) (down e)) s m e (round-fits binary64 s (m * up e) (down e)) h (value s m e h)

-- ---- magnitudes

-- a zero that binary64 holds has the exponent 0
pub zero_exponent : (s : Bool) (e : ℤ) → T (fits binary64 (fin s zero e)) → e ≡ pos 0
unfolding fits
zero_exponent s e f = flat e (eqb→eq (up e * down e) 1 f)

or_true : (b : Bool) → (b || true) ≡ true
or_true true = refl
or_true false = refl

above_zero : (m : ℕ) (e : ℤ) → le (fin false (suc m) e) (bits 0) ≡ false
unfolding le
above_zero m e = rw (not_below_zero (suc m) e, differs_from_zero false m e)

zero_less_zero : bits 0 ⊖ fin false zero (pos 0) ≡ fin false zero (pos 0)
unfolding sub of_bits round size
zero_less_zero = refl

no_infinity : le (inf false) (bits 0) ≡ false
unfolding le of_bits
no_infinity = refl

not_above : (m : ℕ) (e : ℤ) → le (fin true m e) (bits 0) ≡ true
unfolding le
not_above zero e = rw (equals_zero true e, or_true (lt (fin true zero e) (bits 0)))
not_above (suc m) e = rw (below_zero m e)

-- zero less a number at or below zero is its magnitude
pub abs_by_difference : (x : Float) → T (fits binary64 x) → le x (bits 0) ≡ true → bits 0 ⊖ x ≡ abs_of x
unfolding sub sign_of of_bits
abs_by_difference nan f h = refl
abs_by_difference (inf true) f h = refl
abs_by_difference (inf false) f h = absurd (true≢false (sym h ∙ no_infinity))
abs_by_difference (fin true m e) f h =
    rw (zero-mul (down e), zero-add (m * up e * 1), mul-one (m * up e), one-mul (down e)) (rounds_to_itself false m e (neg-fits binary64 (fin true m e) f))
abs_by_difference (fin false zero e) f h = rw (zero_exponent false e f) zero_less_zero
abs_by_difference (fin false (suc m) e) f h = absurd (true≢false (sym h ∙ above_zero m e))

-- a number that is not at or below zero is its own magnitude
pub abs_of_the_rest : (x : Float) → le x (bits 0) ≡ false → x ≡ abs_of x
unfolding sign_of le of_bits
abs_of_the_rest nan h = refl
abs_of_the_rest (inf true) h = absurd (true≢false h)
abs_of_the_rest (inf false) h = refl
abs_of_the_rest (fin true m e) h = absurd (true≢false (sym (not_above m e) ∙ h))
abs_of_the_rest (fin false m e) h = refl

-- ---- signs

sign_of_value : (v : Float) (s : Bool) (a c : ℕ) → HasValue v s a c → sign_of v ≡ s
unfolding sign_of
sign_of_value nan s a c h = absurd h
sign_of_value (inf t) s a c h = absurd h
sign_of_value (fin t m e) s a c h = h.0

sign_of_either : (s a b : Bool) (q x : ℕ) → T (not (is_nan (cond a (cond b (inf s) nan) (odd 53 s q x 1074)))) → sign_of (cond a (cond b (inf s) nan) (odd 53 s q x 1074)) ≡ s
unfolding sign_of is_nan
sign_of_either s true true q x h = refl
sign_of_either s true false q x h = absurd h
sign_of_either s false b q x h = sign_of_value (odd 53 s q x 1074) s (q * 2 ^ x) (2 ^ 1074) (odd_sign 53 s q x 1074)

sign_of_fields : (s : Bool) (x t : ℕ) → T (not (is_nan (of_fields binary64 s x t))) → sign_of (of_fields binary64 s x t) ≡ s
unfolding of_fields
sign_of_fields s zero t h = sign_of_value (odd 53 s t 0 1074) s (t * 2 ^ 0) (2 ^ 1074) (odd_sign 53 s t 0 1074)
sign_of_fields s (suc x) t h = sign_of_either s (eqb (suc x) 2047) (eqb t 0) (2 ^ 52 + t) x h

sign_of_bits : (b : ℕ) → T (not (is_nan (of_bits binary64 b))) → sign_of (of_bits binary64 b) ≡ leb 0x8000_0000_0000_0000 b
unfolding of_bits
sign_of_bits b h = sign_of_fields (leb 0x8000_0000_0000_0000 b) (b % 0x8000_0000_0000_0000 / 2 ^ 52) (b % 2 ^ 52) h

-- the sign is the highest of the 64 bits
pub sign_is_the_highest_bit : (x : Float) → T (fits binary64 x) → T (not (is_nan x)) → leb 0x8000_0000_0000_0000 (to_bits binary64 x) ≡ sign_of x
sign_is_the_highest_bit x f h =
    let b = to_bits binary64 x in
    let back : of_bits binary64 b ≡ x = of_bits-to_bits binary64 x f in
    sym (sign_of_bits b (subst (λ (v : Float). T (not (is_nan v))) (sym back) h)) ∙ ap sign_of back
