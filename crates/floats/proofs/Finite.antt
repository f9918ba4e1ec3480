-- Which sums are finite. A fraction up to one above binary64's largest number rounds to a finite
-- number (`round_finite`): rounding keeps the order, and one above the largest rounds to the largest.
-- What binary64 holds is at most the largest, so 1 + k is finite for every finite k. Assumes nothing.
use mathlib.Core.Path.{◌≡◌, sym, ap, ◌∙◌, subst}
use Prim.Native.Nat.{ℕ, zero, suc, ◌+◌, ◌-◌, ◌*◌, ◌%◌, ◌^◌, ◌≤◌, ◌<◌, zero-le}
use native.Mathlib.Nat.{le_trans, le_of_eq, mul-one, one-mul, zero-mul, mul_assoc, add-mul, mul-le-mul, mul-le-mul_right, lt_of_mul-lt-mul_right, zero-lt-suc, le_refl}
use native.Mathlib.Omega.{arith}
use mathlib.Core.Bool.{Bool, true, false, not, cond, ◌&&◌, beq}
use lib.Dec.{T, leb, ltb, eqb, ltb→lt, leb→le, nleb→lt, lit≤}
use lib.IntN.{ℤ, pos, negsuc}
use lib.Pow.{pow-add, pow_pos, pow_mono}
use lib.Ieee.{Float, nan, inf, fin, Format, binary64, prec, emax, low, fits, of_bits, size, odd, units, round, up, down, add, sum, le}
use lib.Ieee.Fits.{and_l, and_r, round_is, down_pos}
use lib.Ieee.Order.{drop, kept, round_mono}
use lib.Ieee.Scale.{finite}
use Rattle.floats.specs.Binary64.{◌⊕◌, bits}

-- ---- which roundings are finite

odd_finite : (d : ℕ) (s : Bool) (q k l : ℕ) → T (finite (odd d s q k l))
unfolding odd
odd_finite d s zero k l = tt
odd_finite d s (suc q) k l = tt

-- the sign does not matter
one_sign : (b s : Bool) (x y : Float) → T (finite x) → T (finite (cond b y (inf false))) → T (finite (cond b x (inf s)))
one_sign true s x y f h = f
one_sign false s x y f h = h

units_one_sign : (f : Format) (s : Bool) (q k : ℕ) → T (finite (units f false q k)) → T (finite (units f s q k))
unfolding units
units_one_sign f s q k h =
    one_sign (ltb (q * 2 ^ k) (2 ^ (low f + suc (emax f)))) s (odd (suc (prec f)) s q k (low f)) (odd (suc (prec f)) false q k (low f)) (odd_finite (suc (prec f)) s q k (low f)) h

round_one_sign : (s : Bool) (a c : ℕ) → T (finite (round binary64 false a c)) → T (finite (round binary64 s a c))
round_one_sign s a c h =
    let n = a * 2 ^ low binary64 in
    subst (λ (x : Float). T (finite x)) (sym (round_is binary64 s a c))
    (units_one_sign binary64 s (kept 53 n c) (drop 53 n c) (subst (λ (x : Float). T (finite x)) (round_is binary64 false a c) h))

-- what is no larger than a finite number is no infinity
not_above : (b : Bool) (x y : Float) → T (finite x) → T (finite y) → T (le (cond b x (inf false)) y) → T (finite (cond b x (inf false)))
unfolding le
not_above true x y f g h = f
not_above false x nan f g h = absurd g
not_above false x (inf s) f g h = absurd g
not_above false x (fin s m e) f g h = absurd h

units_not_above : (f : Format) (q k : ℕ) (y : Float) → T (finite y) → T (le (units f false q k) y) → T (finite (units f false q k))
unfolding units
units_not_above f q k y g h =
    not_above (ltb (q * 2 ^ k) (2 ^ (low f + suc (emax f)))) (odd (suc (prec f)) false q k (low f)) y (odd_finite (suc (prec f)) false q k (low f)) g h

round_not_above : (a c : ℕ) (y : Float) → T (finite y) → T (le (round binary64 false a c) y) → T (finite (round binary64 false a c))
round_not_above a c y g h =
    let n = a * 2 ^ low binary64 in
    subst (λ (x : Float). T (finite x)) (sym (round_is binary64 false a c))
    (units_not_above binary64 (kept 53 n c) (drop 53 n c) y g (subst (λ (x : Float). T (le x y)) (round_is binary64 false a c) h))

-- the largest number of binary64
abbrev largest : ℕ
largest = (2 ^ 53 - 1) * 2 ^ 971

one_above_largest : T (finite (round binary64 false (largest + 1) 1))
unfolding round units odd size
one_above_largest = tt

-- a fraction up to one above the largest rounds to a finite number, whatever its sign
pub round_finite : (s : Bool) (a c : ℕ) → 0 < c → a ≤ (largest + 1) * c → T (finite (round binary64 s a c))
round_finite s a c C h =
    round_one_sign s a c (round_not_above a c (round binary64 false (largest + 1) 1) one_above_largest (round_mono binary64 a c (largest + 1) 1 C (zero-lt-suc 0) (le_trans (le_of_eq (mul-one a)) h)))

-- ---- sums

either : (b : Bool) (x y : Float) → T (finite x) → T (finite y) → T (finite (cond b x y))
either true x y f g = f
either false x y f g = g

less_l : (a b n : ℕ) → a + b ≤ n → b - a ≤ n
less_l a b n h = omega arith

less_r : (a b n : ℕ) → a + b ≤ n → a - b ≤ n
less_r a b n h = omega arith

sum_finite : (s t : Bool) (a b c : ℕ) → 0 < c → a + b ≤ (largest + 1) * c → T (finite (sum binary64 s a t b c))
unfolding sum
sum_finite s t a b c C h =
    either (beq s t) (round binary64 s (a + b) c) (cond (ltb a b) (round binary64 t (b - a) c) (round binary64 (s && ltb b a) (a - b) c))
    (round_finite s (a + b) c C h)
    (either (ltb a b) (round binary64 t (b - a) c) (round binary64 (s && ltb b a) (a - b) c)
    (round_finite t (b - a) c C (less_l a b ((largest + 1) * c) h))
    (round_finite (s && ltb b a) (a - b) c C (less_r a b ((largest + 1) * c) h)))

-- ---- what binary64 holds is at most the largest

below_two_to_53 : (n : ℕ) → n < 2 ^ 53 → n ≤ 2 ^ 53 - 1
below_two_to_53 n h = omega arith

high_bound : (m k : ℕ) → 971 < k → m * 2 ^ k < 2 ^ 1024 → m * 2 ^ k ≤ largest
high_bound m k h d =
    let j = k - 971 in
    let e : k ≡ j + 971 = omega arith in
    let split : m * 2 ^ k ≡ m * 2 ^ j * 2 ^ 971 = ap (λ (w : ℕ). m * 2 ^ w) e ∙ ap (λ (w : ℕ). m * w) (pow-add 2 j 971) ∙ sym (mul_assoc m (2 ^ j) (2 ^ 971)) in
    let small : m * 2 ^ j < 2 ^ 53 = lt_of_mul-lt-mul_right (2 ^ 971) (subst (λ (w : ℕ). w < 2 ^ 53 * 2 ^ 971) split d) in
    le_trans (le_of_eq split) (mul-le-mul_right (2 ^ 971) (below_two_to_53 (m * 2 ^ j) small))

pos_bound : (m k : ℕ) → m < 2 ^ 53 → m * 2 ^ k < 2 ^ 1024 → m * 2 ^ k ≤ largest
pos_bound m k a d = go (leb k 971) (leb→le k 971) (nleb→lt k 971)
  where
    go : (b : Bool) → (T b → k ≤ 971) → (T (not b) → 971 < k) → m * 2 ^ k ≤ largest
    go true h g = mul-le-mul (below_two_to_53 m a) (pow_mono (h tt))
    go false h g = high_bound m k (g tt) d

neg-bound : (m k : ℕ) → m < 2 ^ 53 → m * 1 ≤ largest * 2 ^ suc k
neg-bound m k a =
    le_trans (mul-le-mul (le_trans (below_two_to_53 m a) (lit≤ tt)) (pow_pos (suc k))) (le_refl (largest * 2 ^ suc k))

bound : (s : Bool) (m : ℕ) (e : ℤ) → T (fits binary64 (fin s m e)) → m * up e ≤ largest * down e
unfolding fits
bound s zero e h = le_trans (le_of_eq (zero-mul (up e))) zero-le
bound s (suc m) (pos k) h =
    let A = eqb (suc m % 2) 1 in
    let B = ltb (suc m) (2 ^ 53) in
    let C = leb 1 (2 ^ 1074) in
    let D = ltb (suc m * 2 ^ k) (2 ^ 1024) in
    le_trans
    (pos_bound (suc m) k (ltb→lt (suc m) (2 ^ 53) (and_r A B (and_l (A && B) C (and_l (A && B && C) D h)))) (ltb→lt (suc m * 2 ^ k) (2 ^ 1024) (and_r (A && B && C) D h)))
    (le_of_eq (sym (mul-one largest)))
bound s (suc m) (negsuc k) h =
    let A = eqb (suc m % 2) 1 in
    let B = ltb (suc m) (2 ^ 53) in
    let C = leb (2 ^ suc k) (2 ^ 1074) in
    let D = ltb (suc m * 1) (2 ^ 1024 * 2 ^ suc k) in
    neg-bound (suc m) k (ltb→lt (suc m) (2 ^ 53) (and_r A B (and_l (A && B) C (and_l (A && B && C) D h))))

plain : (n c p : ℕ) → n ≤ p → 1 * 1 * c + n * 1 ≤ p + c
plain n c p h = omega arith

one_and : (l n c : ℕ) → n ≤ l * c → 1 * 1 * c + n * 1 ≤ (l + 1) * (1 * c)
one_and l n c h = le_trans (plain n c (l * c) h) (le_of_eq (sym (ap (λ (w : ℕ). (l + 1) * w) (one-mul c) ∙ add-mul l 1 c ∙ ap (λ (w : ℕ). l * c + w) (one-mul c))))

-- 1 + k, for every finite k that binary64 holds. At the largest k the 1 is less than half a unit in the
-- last place, and the sum rounds back to k.
pub one_more_is_finite : (k : Float) → T (fits binary64 k) → T (finite k) → T (finite (bits 0x3ff0_0000_0000_0000 ⊕ k))
unfolding add of_bits
one_more_is_finite nan f h = absurd h
one_more_is_finite (inf s) f h = absurd h
one_more_is_finite (fin s m e) f h =
    sum_finite false s (1 * 1 * down e) (m * up e * 1) (1 * down e) (subst (λ (w : ℕ). 0 < w) (sym (one-mul (down e))) (down_pos e)) (one_and largest (m * up e) (down e) (bound s m e f))
