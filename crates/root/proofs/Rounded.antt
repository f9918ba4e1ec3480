-- The definition `sqrt_of` meets the statement `CorrectRoot`, and the statement leaves no choice.
-- Assumes nothing.
use Rattle.std.proofs.Common.{◌≡◌, ℕ, zero, suc, ◌+◌, ◌-◌, ◌*◌, ◌/◌, ◌%◌, ◌^◌, ◌<◌, ◌≤◌, Bool, true, false, cond, not, ◌&&◌, T, eqb, ltb, leb, ℤ, pos, negsuc, sym, refl, ap, ◌∙◌, subst, le_trans, le_of_eq, lt_of_lt_of_le, lt_of_le_of_lt, mul-le-mul_right, mul_assoc, le_antisymm, lt_of_mul-lt-mul_right, mul-lt-mul_of_pos_right, mul-pos, one-mul, mul-one, le_of_mul-le-mul_right, mul-div_cancel, arith, ltb→lt, leb→le, nltb→le, pow_pos, pow_mono, pow-add, shl_lt}
use native.Mathlib.Nat.{eq_of_mul-eq-mul_right, pow-succ'}
use lib.Dec.{nleb→lt}
use lib.Pow.{pow-lt}
use lib.Ieee.{Float, nan, inf, fin, binary64, fits, of_bits, to_bits, size, odd, up, down}
use lib.Ieee.Bits.{of_bits-to_bits, of_bits-fits}
use lib.Ieee.Digits.{size-lt, size-le, size_reaches, back}
use lib.Ieee.Exact.{HasValue, odd_sign}
use lib.Ieee.Fits.{down_pos, odd-fits, and_l, and_r}
use Rattle.root.specs.Sqrt.{CorrectRoot, RoundedRoot, sq, whole_root, nearest_root, root_of, sqrt_of}
use Rattle.root.specs.Whole.{WholeRoot, NearestRoot}
use Rattle.root.proofs.Patterns.{normal_value}
use Rattle.root.proofs.Squares.{sq_one, sq_double, sq-lt, sq_scale, few, nearest_root_lem}

-- ---- from whole numbers to binary64: a root of 53 digits, scaled by 2 ^ k

pub scaled : (a k q : ℕ) (r : Float) → 2 ^ 104 ≤ a → a < 2 ^ 106 → NearestRoot a q → HasValue r false (q * 2 ^ k) (2 ^ 1074) → T (fits binary64 r) → RoundedRoot (a * (2 ^ k * 2 ^ k)) r
scaled a k q r lo hi near value held =
    let Q : ℕ = 2 ^ k * 2 ^ k in
    let Q-pos : 0 < Q = mul-pos (pow_pos k) (pow_pos k) in
    let four : 4 * (a * Q) ≡ 4 * a * Q = sym (mul_assoc 4 a Q) in
    record {
      k = k;
      q = q;
      from = le_trans (le_of_eq (sq_scale (2 ^ 52) (2 ^ k))) (mul-le-mul_right Q lo);
      to = lt_of_lt_of_le (mul-lt-mul_of_pos_right hi Q-pos) (le_of_eq (sym (sq_scale (2 ^ 53) (2 ^ k))));
      above = lt_of_le_of_lt (le_of_eq (sq_scale (2 * q - 1) (2 ^ k))) (lt_of_lt_of_le (mul-lt-mul_of_pos_right near.above Q-pos) (le_of_eq (sym four)));
      below = lt_of_le_of_lt (le_of_eq four) (lt_of_lt_of_le (mul-lt-mul_of_pos_right near.below Q-pos) (le_of_eq (sym (sq_scale (2 * q + 1) (2 ^ k)))));
      value = value;
      held = held;
    }

-- the nearest root has 53 digits
pub root_range : (a q : ℕ) → 4503599627370496 ≤ a → a < 18014398509481983 → NearestRoot (a * 4503599627370496) q → (4503599627370496 ≤ q) × (q < 9007199254740992)
root_range a q lo hi near =
    let l : 9007199254740992 < 2 * q + 1 = sq-lt 9007199254740992 (2 * q + 1) (omega (arith, near.below)) in
    let h : 2 * q - 1 < 18014398509481983 = sq-lt (2 * q - 1) 18014398509481983 (omega (arith, near.above)) in
    (omega arith, omega arith)

-- so the pattern of q and k is a normal number's, and it is the rounded root
pub put-rounded : (a k q : ℕ) → 4503599627370496 ≤ a → a < 18014398509481983 → k < 2000 → NearestRoot (a * 4503599627370496) q → RoundedRoot (a * 4503599627370496 * (2 ^ k * 2 ^ k)) (of_bits binary64 (k * 4503599627370496 + q))
put-rounded a k q lo hi k_lt near =
    let b : ℕ = k * 4503599627370496 + q in
    let r = root_range a q lo hi near in
    let d : 4503599627370496 + b % 4503599627370496 ≡ q = omega arith in
    let f : b / 4503599627370496 - 1 ≡ k = omega arith in
    let v : HasValue (of_bits binary64 b) false (q * 2 ^ k) (2 ^ 1074) = rw (d, f) at (normal_value b (omega arith) (omega arith)) in
    scaled (a * 4503599627370496) k q (of_bits binary64 b) (omega arith) (omega arith) near v (of_bits-fits binary64 b)

-- ---- the definitions on whole numbers

-- one digit more
digit : (n q : ℕ) → WholeRoot (n / 4) q → WholeRoot n (cond (leb (sq (2 * q + 1)) n) (2 * q + 1) (2 * q))
digit n q w = go (leb (sq (2 * q + 1)) n) (leb→le (sq (2 * q + 1)) n) (nleb→lt (sq (2 * q + 1)) n)
  where
    go : (b : Bool) → (T b → sq (2 * q + 1) ≤ n) → (T (not b) → n < sq (2 * q + 1)) → WholeRoot n (cond b (2 * q + 1) (2 * q))
    go true is isnt = record {
      low = is tt;
      high = omega (arith, w.high, sq_one q, sq_one (2 * q), sq_one (2 * q + 1), sq_double q);
    }
    go false is isnt = record {
      low = omega (arith, w.low, sq_double q);
      high = isnt tt;
    }

whole_root_lem : (d n : ℕ) → n < 4 ^ d → WholeRoot n (whole_root d n)
unfolding whole_root
whole_root_lem zero n h = record { low = omega arith; high = h }
whole_root_lem (suc d) n h = digit n (whole_root d (n / 4)) (whole_root_lem d (n / 4) (quarter (4 ^ d) h))
  where
    quarter : (p : ℕ) → n < 4 ^ suc d → n / 4 < 4 ^ d
    quarter p l = omega (arith, pow-add 4 1 d)

-- the whole part, or the next number
half_up : (a q : ℕ) → 1 ≤ a → WholeRoot a q → NearestRoot a (cond (ltb (sq (2 * q + 1)) (4 * a)) (q + 1) q)
half_up a q one w = go (ltb (sq (2 * q + 1)) (4 * a)) (ltb→lt (sq (2 * q + 1)) (4 * a)) (nltb→le (sq (2 * q + 1)) (4 * a))
  where
    q-pos : 1 ≤ q
    q-pos = let l : 1 < q + 1 = sq-lt 1 (q + 1) (omega (arith, w.high)) in omega arith

    go : (b : Bool) → (T b → sq (2 * q + 1) < 4 * a) → (T (not b) → 4 * a ≤ sq (2 * q + 1)) → NearestRoot a (cond b (q + 1) q)
    go true is isnt = let l = is tt in nearest_root_lem a (q + 1) (omega arith) (omega (arith, sq_one q, sq_one (2 * q), sq_double q)) (omega (arith, w.high))
    go false is isnt = let l = isnt tt in nearest_root_lem a q q-pos (omega (arith, w.low, q-pos)) (omega (arith, sq_one (2 * q), sq_double q))

nearest_is : (a : ℕ) → 1 ≤ a → a < 2 ^ 106 → NearestRoot a (nearest_root a)
unfolding nearest_root
nearest_is a one h = half_up a (whole_root 53 a) one (whole_root_lem 53 a h)

-- ---- the rounded root of m * 2 ^ i units, for an m of at most 53 digits

square_pow : (k : ℕ) → 4 ^ k ≡ 2 ^ k * 2 ^ k
square_pow zero = refl
square_pow (suc k) = pow-succ' 4 k ∙ ap (λ (z : ℕ). 4 * z) (square_pow k) ∙ sym (sq_double (2 ^ k)) ∙ ap (λ (z : ℕ). z * z) (sym (pow-succ' 2 k))

root_rounded : (m i : ℕ) → 1 ≤ m → m < 2 ^ 53 → 1074 ≤ i → i < 3172 → RoundedRoot (m * 2 ^ i) (root_of (m * 2 ^ i))
unfolding root_of
root_rounded m i m-pos m-lt i-ge i_lt =
    let n : ℕ = m * 2 ^ i in
    let z : ℕ = size n in
    let k : ℕ = (z - 105) / 2 in
    let j : ℕ = i - (k + k) in
    let a : ℕ = m * 2 ^ j in
    let Q : ℕ = 2 ^ k * 2 ^ k in
    let Q-pos : 0 < Q = mul-pos (pow_pos k) (pow_pos k) in
    let Q-is : 2 ^ (k + k) ≡ Q = pow-add 2 k k in
    let z-le : z ≤ 53 + i = size-le n (53 + i) (shl_lt 53 i m-lt) in
    let n-ge : 2 ^ i ≤ n = le_trans (le_of_eq (sym (one-mul (2 ^ i)))) (mul-le-mul_right (2 ^ i) m-pos) in
    let z-gt : i < z = few i n z n-ge (size-lt n) in
    let n-is : n ≡ a * Q = ap (λ (e : ℕ). m * 2 ^ e) (sym (back i (k + k) (omega arith))) ∙ ap (λ (e : ℕ). m * e) (pow-add 2 j (k + k)) ∙ sym (mul_assoc m (2 ^ j) (2 ^ (k + k))) ∙ ap (λ (e : ℕ). a * e) Q-is in
    let whole : n / 4 ^ k ≡ a = ap (λ (e : ℕ). n / e) (square_pow k) ∙ ap (λ (e : ℕ). e / Q) n-is ∙ mul-div_cancel a Q-pos in
    let least : 2 ^ (104 + (k + k)) ≤ n = size_reaches n (104 + (k + k)) (omega arith) in
    let lo : 2 ^ 104 ≤ a = le_of_mul-le-mul_right (le_trans (le_of_eq (ap (λ (e : ℕ). 2 ^ 104 * e) (sym Q-is) ∙ sym (pow-add 2 104 (k + k)))) (le_trans least (le_of_eq n-is))) Q-pos in
    let most : n < 2 ^ (106 + (k + k)) = lt_of_lt_of_le (size-lt n) (pow_mono (omega arith)) in
    let hi : a < 2 ^ 106 = lt_of_mul-lt-mul_right Q (lt_of_le_of_lt (le_of_eq (sym n-is)) (lt_of_lt_of_le most (le_of_eq (pow-add 2 106 (k + k) ∙ ap (λ (e : ℕ). 2 ^ 106 * e) Q-is)))) in
    let q : ℕ = nearest_root a in
    let near : NearestRoot a q = nearest_is a (omega arith) hi in
    let q_le : q ≤ 2 ^ 53 = let l : 2 * q - 1 < 2 ^ 54 = sq-lt (2 * q - 1) (2 ^ 54) (omega (arith, near.above)) in omega arith in
    let k_lt : 53 + k < 2098 = omega arith in
    let in-range : q * 2 ^ k < 2 ^ 2098 = lt_of_le_of_lt (le_trans (mul-le-mul_right (2 ^ k) q_le) (le_of_eq (sym (pow-add 2 53 k)))) (pow-lt k_lt) in
    let held : T (fits binary64 (odd 54 false q k 1074)) = odd-fits binary64 54 false q k (omega arith) q_le in-range in
    subst (λ (e : ℕ). RoundedRoot n (odd 54 false (nearest_root e) k 1074)) (sym whole)
    (subst (λ (e : ℕ). RoundedRoot e (odd 54 false q k 1074)) (sym n-is) (scaled a k q (odd 54 false q k 1074) lo hi near (odd_sign 54 false q k 1074) held))

-- ---- a positive binary64 number is m * 2 ^ j units of 2 ^ -1074, for an m of at most 53 digits

record Units (m : ℕ) (e : ℤ) : Type 0 where
  pub j : ℕ
  pub small : m < 2 ^ 53
  pub range : j < 2098
  pub exact : m * up e * 2 ^ 1074 ≡ m * 2 ^ j * down e

units_of : (m : ℕ) (e : ℤ) → T (fits binary64 (fin false (suc m) e)) → Units (suc m) e
unfolding fits
units_of m e f = go e (ltb→lt (suc m) (2 ^ 53) (and_r a b (and_l (a && b) c ab))) (leb→le (down e) (2 ^ 1074) (and_r (a && b) c ab)) (ltb→lt (suc m * up e) (2 ^ 1024 * down e) (and_r (a && b && c) d f))
  where
    a : Bool
    a = eqb (suc m % 2) 1

    b : Bool
    b = ltb (suc m) (2 ^ 53)

    c : Bool
    c = leb (down e) (2 ^ 1074)

    d : Bool
    d = ltb (suc m * up e) (2 ^ 1024 * down e)

    ab : T (a && b && c)
    ab = and_l (a && b && c) d f

    go : (e : ℤ) → suc m < 2 ^ 53 → down e ≤ 2 ^ 1074 → suc m * up e < 2 ^ 1024 * down e → Units (suc m) e
    go (pos t) small fine range =
        let one : 2 ^ t ≤ suc m * 2 ^ t = le_trans (le_of_eq (sym (one-mul (2 ^ t)))) (mul-le-mul_right {n = suc m} (2 ^ t) (omega arith)) in
        let l : t < 1024 = few t (suc m * 2 ^ t) 1024 one (lt_of_lt_of_le range (le_of_eq (mul-one (2 ^ 1024)))) in
        record {
          j = t + 1074;
          small = small;
          range = omega arith;
          exact = mul_assoc (suc m) (2 ^ t) (2 ^ 1074) ∙ ap (λ (z : ℕ). suc m * z) (sym (pow-add 2 t 1074)) ∙ sym (mul-one (suc m * 2 ^ (t + 1074)));
        }
    go (negsuc t) small fine range =
        let l : suc t < 1075 = few (suc t) (2 ^ 1074) 1075 fine (pow-lt {i = 1074} {j = 1075} (omega arith)) in
        let whole : 2 ^ 1074 ≡ 2 ^ (1074 - suc t) * 2 ^ suc t = ap (λ (z : ℕ). 2 ^ z) (sym (back 1074 (suc t) (omega arith))) ∙ pow-add 2 (1074 - suc t) (suc t) in
        record {
          j = 1074 - suc t;
          small = small;
          range = omega arith;
          exact = ap (λ (z : ℕ). z * 2 ^ 1074) (mul-one (suc m)) ∙ ap (λ (z : ℕ). suc m * z) whole ∙ sym (mul_assoc (suc m) (2 ^ (1074 - suc t)) (2 ^ suc t));
        }

pub definition_is_correct : (x : Float) → T (fits binary64 x) → CorrectRoot x (sqrt_of x)
unfolding CorrectRoot sqrt_of
definition_is_correct nan f = refl
definition_is_correct (inf true) f = refl
definition_is_correct (inf false) f = refl
definition_is_correct (fin s zero e) f = refl
definition_is_correct (fin true (suc m) e) f = refl
definition_is_correct (fin false (suc m) e) f =
    let u = units_of m e f in
    let j : ℕ = u.j in
    let n : ℕ = suc m * up e * 2 ^ 1074 / down e in
    let n-is : n ≡ suc m * 2 ^ j = ap (λ (z : ℕ). z / down e) u.exact ∙ mul-div_cancel (suc m * 2 ^ j) (down_pos e) in
    let unit : n * 2 ^ 1074 ≡ suc m * 2 ^ (j + 1074) = ap (λ (z : ℕ). z * 2 ^ 1074) n-is ∙ mul_assoc (suc m) (2 ^ j) (2 ^ 1074) ∙ ap (λ (z : ℕ). suc m * z) (sym (pow-add 2 j 1074)) in
    (n, (refl, u.exact ∙ ap (λ (z : ℕ). z * down e) (sym n-is)), subst (λ (z : ℕ). RoundedRoot z (root_of z)) (sym unit) (root_rounded (suc m) (j + 1074) (omega arith) u.small (omega arith) (omega (arith, u.range))))

-- ---- the statement leaves no choice

-- the pattern of n units of 2 ^ -1074
pattern_of : Bool → ℕ → ℕ
pattern_of s n = cond s 9223372036854775808 0 + (size n - 53) * 4503599627370496 + n / 2 ^ (size n - 53)

bits_of : (x : Float) (s : Bool) (n : ℕ) → HasValue x s n (2 ^ 1074) → to_bits binary64 x ≡ pattern_of s n
unfolding to_bits pattern_of
bits_of nan s n v = absurd v
bits_of (inf t) s n v = absurd v
bits_of (fin t m e) s n v =
    let w : m * up e * 2 ^ 1074 / down e ≡ n = ap (λ (z : ℕ). z / down e) v.1 ∙ mul-div_cancel n (down_pos e) in
    ap (λ (z : ℕ). pattern_of t z) w ∙ ap (λ (b : Bool). pattern_of b n) v.0

value_unique : (x y : Float) (s : Bool) (n : ℕ) → T (fits binary64 x) → T (fits binary64 y) → HasValue x s n (2 ^ 1074) → HasValue y s n (2 ^ 1074) → x ≡ y
value_unique x y s n fx fy v w =
    sym (of_bits-to_bits binary64 x fx) ∙ ap (λ (b : ℕ). of_bits binary64 b) (bits_of x s n v ∙ sym (bits_of y s n w)) ∙ of_bits-to_bits binary64 y fy

-- the binade
k_le : (n k j : ℕ) → sq (2 ^ 52 * 2 ^ k) ≤ n → n < sq (2 ^ 53 * 2 ^ j) → k ≤ j
k_le n k j h l =
    let a : 2 ^ 52 * 2 ^ k < 2 ^ 53 * 2 ^ j = sq-lt (2 ^ 52 * 2 ^ k) (2 ^ 53 * 2 ^ j) (lt_of_le_of_lt h l) in
    let b : 52 + k < 53 + j = few (52 + k) (2 ^ 52 * 2 ^ k) (53 + j) (le_of_eq (pow-add 2 52 k)) (lt_of_lt_of_le a (le_of_eq (sym (pow-add 2 53 j)))) in
    omega arith

-- the number of steps
q_le : (n k q p : ℕ) → sq ((2 * q - 1) * 2 ^ k) < 4 * n → 4 * n < sq ((2 * p + 1) * 2 ^ k) → q ≤ p
q_le n k q p h l =
    let a : (2 * q - 1) * 2 ^ k < (2 * p + 1) * 2 ^ k = sq-lt ((2 * q - 1) * 2 ^ k) ((2 * p + 1) * 2 ^ k) (omega arith) in
    let b : 2 * q - 1 < 2 * p + 1 = lt_of_mul-lt-mul_right (2 ^ k) a in
    omega arith

rounded_unique : (n : ℕ) (r s : Float) → RoundedRoot n r → RoundedRoot n s → r ≡ s
rounded_unique n r s a b =
    let ek : a.k ≡ b.k = le_antisymm (k_le n a.k b.k a.from b.to) (k_le n b.k a.k b.from a.to) in
    let up' = subst (λ (k : ℕ). sq ((2 * a.q - 1) * 2 ^ k) < 4 * n) ek a.above in
    let lo' = subst (λ (k : ℕ). 4 * n < sq ((2 * a.q + 1) * 2 ^ k)) ek a.below in
    let eq : a.q ≡ b.q = le_antisymm (q_le n b.k a.q b.q up' b.below) (q_le n b.k b.q a.q b.above lo') in
    let v : HasValue r false (b.q * 2 ^ b.k) (2 ^ 1074) = subst (λ (z : ℕ). HasValue r false z (2 ^ 1074)) (ap (λ (z : ℕ). z * 2 ^ a.k) eq ∙ ap (λ (z : ℕ). b.q * 2 ^ z) ek) a.value in
    value_unique r s false (b.q * 2 ^ b.k) a.held b.held v b.value

pub no_choice : (x r s : Float) → CorrectRoot x r → CorrectRoot x s → r ≡ s
unfolding CorrectRoot
no_choice nan r s a b = a ∙ sym b
no_choice (inf true) r s a b = a ∙ sym b
no_choice (inf false) r s a b = a ∙ sym b
no_choice (fin t zero e) r s a b = a ∙ sym b
no_choice (fin true (suc m) e) r s a b = a ∙ sym b
no_choice (fin false (suc m) e) r s a b =
    let same : a.0 ≡ b.0 = eq_of_mul-eq-mul_right (down e) (down_pos e) a.0 b.0 (sym a.1.1 ∙ b.1.1) in
    rounded_unique (b.0 * 2 ^ 1074) r s (subst (λ (z : ℕ). RoundedRoot (z * 2 ^ 1074) r) same a.2) b.2
