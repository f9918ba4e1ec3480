-- The bit patterns of binary64: which are NaN's, and what number each of the others stands for.
-- Assumes nothing.
use Rattle.std.proofs.Common.{◌≡◌, ℕ, zero, suc, ◌+◌, ◌-◌, ◌*◌, ◌/◌, ◌%◌, ◌^◌, ◌<◌, ◌≤◌, Bool, true, false, cond, not, T, eqb, ltb, leb, ◌⊎◌, ℤ, pos, sym, refl, ap, ◌∙◌, subst, inl, inr, le_of_eq, lt_of_lt_of_le, lt_irrefl, mod-eq_of_lt, eq-or-lt_of_le, mul-pos, zero-mul, mul-one, not-le_of_lt, arith, le→leb, eqb→eq, ltb→lt, leb→le, pow_pos}
use lib.Dec.{not_T}
use lib.Ieee.{Float, nan, inf, fin, binary64, odd, of_fields, of_bits, nan_bits, is_nan, lt, ne, up}
use lib.Ieee.Compare.{nan_differs}
use lib.Ieee.Bits.{is_false, is_true, cond_no, nan_bits_above}
use lib.Ieee.Exact.{HasValue, odd_sign}
use lib.Ieee.Fits.{down_pos}

of_bits_is : (b : ℕ) → of_bits binary64 b ≡ of_fields binary64 (leb 9223372036854775808 b) (b % 9223372036854775808 / 4503599627370496) (b % 4503599627370496)
unfolding of_bits
of_bits_is b = refl

-- without a sign: the fields are what they are
plain : (b : ℕ) → b < 9223372036854775808 → of_bits binary64 b ≡ of_fields binary64 false (b / 4503599627370496) (b % 4503599627370496)
plain b h =
    of_bits_is b
    ∙ ap (λ (s : Bool). of_fields binary64 s (b % 9223372036854775808 / 4503599627370496) (b % 4503599627370496)) (is_false (leb 9223372036854775808 b) (not_T (leb 9223372036854775808 b) (λ u. not-le_of_lt h (leb→le 9223372036854775808 b u))))
    ∙ ap (λ (x : ℕ). of_fields binary64 false (x / 4503599627370496) (b % 4503599627370496)) (mod-eq_of_lt h)

under_ones : (t x : ℕ) → suc x < 2047 → of_fields binary64 false (suc x) t ≡ odd 53 false (4503599627370496 + t) x 1074
unfolding of_fields
under_ones t x h = cond_no (eqb (suc x) 2047) (cond (eqb t 0) (inf false) nan) (odd 53 false (4503599627370496 + t) x 1074) (not_T (eqb (suc x) 2047) (λ u. differ (eqb→eq (suc x) 2047 u)))
  where
    differ : suc x ≡ 2047 → ⊥
    differ e = omega arith

at_zero : (t : ℕ) → of_fields binary64 false 0 t ≡ odd 53 false t 0 1074
unfolding of_fields
at_zero t = refl

-- a normal number's pattern: b / 2 ^ 52 is the exponent's field, b % 2 ^ 52 the digits below the
-- leading one
pub normal_value : (b : ℕ) → 4503599627370496 ≤ b → b < 9218868437227405312 → HasValue (of_bits binary64 b) false ((4503599627370496 + b % 4503599627370496) * 2 ^ (b / 4503599627370496 - 1)) (2 ^ 1074)
normal_value b h k =
    let x : ℕ = b / 4503599627370496 - 1 in
    let t : ℕ = b % 4503599627370496 in
    let f : b / 4503599627370496 ≡ suc x = omega arith in
    let is : of_bits binary64 b ≡ odd 53 false (4503599627370496 + t) x 1074 = plain b (omega arith) ∙ ap (λ (z : ℕ). of_fields binary64 false z t) f ∙ under_ones t x (omega arith) in
    subst (λ (v : Float). HasValue v false ((4503599627370496 + t) * 2 ^ x) (2 ^ 1074)) (sym is) (odd_sign 53 false (4503599627370496 + t) x 1074)

-- a subnormal number's: b units
pub subnormal_value : (b : ℕ) → b < 4503599627370496 → HasValue (of_bits binary64 b) false b (2 ^ 1074)
subnormal_value b h =
    let f : b / 4503599627370496 ≡ 0 = omega arith in
    let t : b % 4503599627370496 ≡ b = omega arith in
    let is : of_bits binary64 b ≡ odd 53 false b 0 1074 = plain b (omega arith) ∙ ap (λ (z : ℕ). of_fields binary64 false z (b % 4503599627370496)) f ∙ at_zero (b % 4503599627370496) ∙ ap (λ (z : ℕ). odd 53 false z 0 1074) t in
    subst (λ (n : ℕ). HasValue (of_bits binary64 b) false n (2 ^ 1074)) (mul-one b) (subst (λ (v : Float). HasValue v false (b * 2 ^ 0) (2 ^ 1074)) (sym is) (odd_sign 53 false b 0 1074))

-- ---- which patterns are a NaN's, and what tests tell of one

pub no_nan : (b : ℕ) → b < 9218868437227405312 → T (not (nan_bits binary64 b))
no_nan b h =
    let m : b % 9223372036854775808 ≡ b = mod-eq_of_lt (omega arith) in
    subst (λ (t : Bool). T (not t)) (sym (nan_bits_above binary64 b)) (not_T (ltb 9218868437227405312 (b % 9223372036854775808)) (λ u. above (ltb→lt 9218868437227405312 (b % 9223372036854775808) u) m))
  where
    above : 9218868437227405312 < b % 9223372036854775808 → b % 9223372036854775808 ≡ b → ⊥
    above k e = omega arith

pub lt_no_nan : (x y : Float) → T (lt x y) → T (not (is_nan y))
unfolding lt is_nan
lt_no_nan nan nan t = t
lt_no_nan (inf s) nan t = t
lt_no_nan (fin s m e) nan t = t
lt_no_nan x (inf s) t = tt
lt_no_nan x (fin s m e) t = tt

pub no_nan_of : (x : Float) → ne x x ≡ false → T (not (is_nan x))
unfolding is_nan
no_nan_of nan e = subst T (sym nan_differs ∙ e) tt
no_nan_of (inf s) e = tt
no_nan_of (fin s m e') e = tt

-- ---- the patterns that are no positive number's

-- with a sign: the fields are those of the pattern less the sign
signed : (b : ℕ) → 9223372036854775808 ≤ b → of_bits binary64 b ≡ of_fields binary64 true (b % 9223372036854775808 / 4503599627370496) (b % 4503599627370496)
signed b h = of_bits_is b ∙ ap (λ (s : Bool). of_fields binary64 s (b % 9223372036854775808 / 4503599627370496) (b % 4503599627370496)) (is_true (leb 9223372036854775808 b) (le→leb 9223372036854775808 b h))

at_ones : (s : Bool) (t : ℕ) → of_fields binary64 s 2047 t ≡ cond (eqb t 0) (inf s) nan
unfolding of_fields
at_ones s t = refl

minus_zero_lem : of_bits binary64 9223372036854775808 ≡ fin true 0 (pos 0)
unfolding of_bits
minus_zero_lem = refl

-- from +inf's pattern up to -0's: +inf or a NaN, or -0
pub top_patterns : (b : ℕ) → 9218868437227405312 ≤ b → b ≤ 9223372036854775808 → (of_bits binary64 b ≡ inf false) ⊎ ((of_bits binary64 b ≡ nan) ⊎ (of_bits binary64 b ≡ fin true 0 (pos 0)))
top_patterns b h k = go (eq-or-lt_of_le k)
  where
    either : (t : Bool) → of_bits binary64 b ≡ cond t (inf false) nan → (of_bits binary64 b ≡ inf false) ⊎ ((of_bits binary64 b ≡ nan) ⊎ (of_bits binary64 b ≡ fin true 0 (pos 0)))
    either true e = inl e
    either false e = inr (inl e)

    go : (b ≡ 9223372036854775808) ⊎ (b < 9223372036854775808) → (of_bits binary64 b ≡ inf false) ⊎ ((of_bits binary64 b ≡ nan) ⊎ (of_bits binary64 b ≡ fin true 0 (pos 0)))
    go (inl e) = inr (inr (ap (λ (n : ℕ). of_bits binary64 n) e ∙ minus_zero_lem))
    go (inr l) =
        let f : b / 4503599627370496 ≡ 2047 = omega arith in
        either (eqb (b % 4503599627370496) 0) (plain b l ∙ ap (λ (z : ℕ). of_fields binary64 false z (b % 4503599627370496)) f ∙ at_ones false (b % 4503599627370496))

-- beyond -0's: -inf, a NaN, or a number below zero
pub data Below : Float → Type 0 where
  infinite : Below (inf true)
  none : Below nan
  some : {m : ℕ} {e : ℤ} → Below (fin true (suc m) e)

below_of_value : (x : Float) (a : ℕ) → 0 < a → HasValue x true a (2 ^ 1074) → Below x
below_of_value nan a h v = absurd v
below_of_value (inf s) a h v = absurd v
below_of_value (fin false m e) a h v = absurd (differ v.0)
  where
    differ : false ≡ true → ⊥
    differ p = subst (λ (t : Bool). T (not t)) p tt
below_of_value (fin true zero e) a h v = absurd (lt_irrefl 0 (lt_of_lt_of_le (mul-pos h (down_pos e)) (le_of_eq (sym v.1 ∙ nothing))))
  where
    nothing : zero * up e * 2 ^ 1074 ≡ 0
    nothing = ap (λ (z : ℕ). z * 2 ^ 1074) (zero-mul (up e)) ∙ zero-mul (2 ^ 1074)
below_of_value (fin true (suc m) e) a h v = some

below_of_fields : (x t : ℕ) → x < 2048 → 0 < x + t → Below (of_fields binary64 true x t)
unfolding of_fields
below_of_fields zero t h p = below_of_value (odd 53 true t 0 1074) (t * 2 ^ 0) (mul-pos {m = t} (omega arith) (pow_pos 0)) (odd_sign 53 true t 0 1074)
below_of_fields (suc x) t h p = go (eqb (suc x) 2047) (eqb t 0)
  where
    go : (a b : Bool) → Below (cond a (cond b (inf true) nan) (odd 53 true (4503599627370496 + t) x 1074))
    go true true = infinite
    go true false = none
    go false b = below_of_value (odd 53 true (4503599627370496 + t) x 1074) ((4503599627370496 + t) * 2 ^ x) (mul-pos (omega arith) (pow_pos x)) (odd_sign 53 true (4503599627370496 + t) x 1074)

pub negative_patterns : (b : ℕ) → 9223372036854775808 < b → b < 18446744073709551616 → Below (of_bits binary64 b)
negative_patterns b h k = subst Below (sym (signed b (omega arith))) (below_of_fields (b % 9223372036854775808 / 4503599627370496) (b % 4503599627370496) (omega arith) (omega arith))
