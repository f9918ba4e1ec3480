-- How large a result can be. What rounds from a fraction up to k is at most k where k is a binary64
-- number (`round_at_most`), because rounding keeps the order; so products and sums of bounded numbers
-- are bounded (`mul_at_most`, `add_at_most`). Assumes nothing.
use Rattle.std.proofs.Common.{◌≡◌, ℕ, zero, suc, ◌+◌, ◌-◌, ◌*◌, ◌^◌, ◌<◌, ◌≤◌, Bool, true, false, cond, not, ◌&&◌, ◌||◌, T, eqb, ltb, ℤ, sym, refl, ap, ◌∙◌, subst, true≢false, zero-le, le_trans, le_of_eq, le_of_lt, add-le-add, mul-le-mul_right, zero-lt-suc, mul_assoc, mul_comm, add-mul, mul-le-mul, mul-pos, mul-one, mul_right_comm, le_of_mul-le-mul_right, arith, eqb→eq, ltb→lt}
use native.Mathlib.Nat.{mul-mul-mul_comm}
use mathlib.Core.Bool.{beq}
use lib.Ieee.{Float, nan, inf, fin, Format, binary64, prec, emax, low, odd, units, round, up, down, add, sub, mul, sum, neg, le, lt, eq}
use lib.Ieee.Fits.{round_is, down_pos}
use lib.Ieee.Exact.{HasValue}
use lib.Ieee.Order.{drop, kept, round_mono}
use lib.Ieee.Scale.{finite}
use Rattle.floats.specs.Binary64.{◌⊕◌, ◌⊖◌, ◌⊗◌}

-- a finite number of magnitude at most k
abbrev pub AtMost : ℕ → Float → Type 0
AtMost k nan = ⊥
AtMost k (inf s) = ⊥
AtMost k (fin s m e) = m * up e ≤ k * down e

pub at_most_finite : (k : ℕ) (x : Float) → AtMost k x → finite x ≡ true
at_most_finite k nan h = absurd h
at_most_finite k (inf s) h = absurd h
at_most_finite k (fin s m e) h = refl

pub at_most_more : (k l : ℕ) (x : Float) → k ≤ l → AtMost k x → AtMost l x
at_most_more k l nan g h = absurd h
at_most_more k l (inf s) g h = absurd h
at_most_more k l (fin s m e) g h = le_trans h (mul-le-mul_right (down e) g)

-- k is a binary64 number
abbrev pub Exact : ℕ → Type 0
Exact k = HasValue (round binary64 false k 1) false k 1

-- ---- rounding

pub below_or_level : (a b : ℕ) → T (ltb a b || (eqb a b && (true || eqb a 0))) → a ≤ b
below_or_level a b h = by-test (ltb a b) refl h
  where
    level : (d : Bool) → eqb a b ≡ d → T (d && true) → a ≤ b
    level true e g = le_of_eq (eqb→eq a b (subst T (sym e) tt))
    level false e g = absurd g

    by-test : (d : Bool) → ltb a b ≡ d → T (d || (eqb a b && (true || eqb a 0))) → a ≤ b
    by-test true e g = le_of_lt (ltb→lt a b (subst T (sym e) tt))
    by-test false e g = level (eqb a b) refl g

pub le_at_most : (k m : ℕ) (e : ℤ) (y : Float) → HasValue y false k 1 → T (le (fin false m e) y) → m * up e ≤ k * down e
unfolding le lt eq
le_at_most k m e nan v h = absurd v
le_at_most k m e (inf s) v h = absurd v
le_at_most k m e (fin true n d) v h = absurd (true≢false v.0)
le_at_most k m e (fin false n d) v h =
    let value : n * up d ≡ k * down d = sym (mul-one (n * up d)) ∙ v.1 in
    let crossed = below_or_level (m * up e * down d) (n * up d * down e) h in
    le_of_mul-le-mul_right {k = down d}
    (le_trans crossed (le_of_eq (ap (λ (w : ℕ). w * down e) value ∙ mul_right_comm k (down d) (down e))))
    (down_pos d)

no_infinity : (k : ℕ) (y : Float) → HasValue y false k 1 → T (le (inf false) y) → ⊥
unfolding le lt eq
no_infinity k nan v h = v
no_infinity k (inf s) v h = v
no_infinity k (fin s m e) v h = h

by_units : (k : ℕ) (y : Float) → HasValue y false k 1 → (b : Bool) (d q j l : ℕ) (s : Bool) → T (le (cond b (odd d false q j l) (inf false)) y) → AtMost k (cond b (odd d s q j l) (inf s))
unfolding odd
by_units k y v true d zero j l s h = zero-le
by_units k y v true d (suc q) j l s h = le_at_most k _ _ y v h
by_units k y v false d q j l s h = no_infinity k y v h

units_at_most : (k : ℕ) (y : Float) → HasValue y false k 1 → (f : Format) (q j : ℕ) (s : Bool) → T (le (units f false q j) y) → AtMost k (units f s q j)
unfolding units
units_at_most k y v f q j s h = by_units k y v (ltb (q * 2 ^ j) (2 ^ (low f + suc (emax f)))) (suc (prec f)) q j (low f) s h

pub round_at_most : (k : ℕ) → Exact k → (s : Bool) (a c : ℕ) → 0 < c → a ≤ k * c → AtMost k (round binary64 s a c)
round_at_most k exact s a c C h =
    let n = a * 2 ^ low binary64 in
    let under = round_mono binary64 a c k 1 C (zero-lt-suc 0) (le_trans (le_of_eq (mul-one a)) h) in
    subst (AtMost k) (sym (round_is binary64 s a c))
    (units_at_most k (round binary64 false k 1) exact binary64 (kept 53 n c) (drop 53 n c) s
    (subst (λ (x : Float). T (le x (round binary64 false k 1))) (round_is binary64 false a c) under))

-- ---- operations

pub neg_at_most : (k : ℕ) (x : Float) → AtMost k x → AtMost k (neg x)
unfolding neg
neg_at_most k nan h = h
neg_at_most k (inf s) h = h
neg_at_most k (fin s m e) h = h

pub mul_at_most : (a b : ℕ) → Exact (a * b) → (x y : Float) → AtMost a x → AtMost b y → AtMost (a * b) (x ⊗ y)
unfolding mul
mul_at_most a b exact nan y h g = absurd h
mul_at_most a b exact (inf s) y h g = absurd h
mul_at_most a b exact (fin s m e) nan h g = absurd g
mul_at_most a b exact (fin s m e) (inf t) h g = absurd g
mul_at_most a b exact (fin s m e) (fin t n d) h g =
    round_at_most (a * b) exact (not (beq s t)) (m * up e * (n * up d)) (down e * down d) (mul-pos (down_pos e) (down_pos d))
    (le_trans (mul-le-mul h g) (le_of_eq (mul-mul-mul_comm a (down e) b (down d))))

either : (k : ℕ) (b : Bool) (x y : Float) → AtMost k x → AtMost k y → AtMost k (cond b x y)
either k true x y h g = h
either k false x y h g = g

less_l : (a b n : ℕ) → a + b ≤ n → b - a ≤ n
less_l a b n h = omega arith

less_r : (a b n : ℕ) → a + b ≤ n → a - b ≤ n
less_r a b n h = omega arith

sum_at_most : (k : ℕ) → Exact k → (s t : Bool) (a b c : ℕ) → 0 < c → a + b ≤ k * c → AtMost k (sum binary64 s a t b c)
unfolding sum
sum_at_most k exact s t a b c C h =
    either k (beq s t) (round binary64 s (a + b) c) (cond (ltb a b) (round binary64 t (b - a) c) (round binary64 (s && ltb b a) (a - b) c))
    (round_at_most k exact s (a + b) c C h)
    (either k (ltb a b) (round binary64 t (b - a) c) (round binary64 (s && ltb b a) (a - b) c)
    (round_at_most k exact t (b - a) c C (less_l a b (k * c) h))
    (round_at_most k exact (s && ltb b a) (a - b) c C (less_r a b (k * c) h)))

pub add_at_most : (a b : ℕ) → Exact (a + b) → (x y : Float) → AtMost a x → AtMost b y → AtMost (a + b) (x ⊕ y)
unfolding add
add_at_most a b exact nan y h g = absurd h
add_at_most a b exact (inf s) y h g = absurd h
add_at_most a b exact (fin s m e) nan h g = absurd g
add_at_most a b exact (fin s m e) (inf t) h g = absurd g
add_at_most a b exact (fin s m e) (fin t n d) h g =
    sum_at_most (a + b) exact s t (m * up e * down d) (n * up d * down e) (down e * down d) (mul-pos (down_pos e) (down_pos d))
    (le_trans
    (add-le-add (mul-le-mul_right (down d) h) (mul-le-mul_right (down e) g))
    (le_of_eq
    (ap (λ (w : ℕ). w + b * down d * down e) (mul_assoc a (down e) (down d))
    ∙ ap (λ (w : ℕ). a * (down e * down d) + w) (mul_assoc b (down d) (down e) ∙ ap (λ (w : ℕ). b * w) (mul_comm (down d) (down e)))
    ∙ sym (add-mul a b (down e * down d)))))

pub sub_at_most : (a b : ℕ) → Exact (a + b) → (x y : Float) → AtMost a x → AtMost b y → AtMost (a + b) (x ⊖ y)
unfolding sub
sub_at_most a b exact x y h g = add_at_most a b exact x (neg y) h (neg_at_most b y g)
