-- A checked permtide step never ends with a NaN coefficient, nor with an infinite one: its codes are 1 to
-- 3 and its k is finite, so each of the nine coefficients is finite (`coefficient_is_finite`). And rule
-- 5 by the codes is, for every record, rule 5 by the Rust's test that the coefficient is no NaN
-- (`rule_is_the_rusts`), so leaving that test out changed no answer. Assumes nothing.
use mathlib.Core.Path.{◌≡◌, refl, sym, ap, ◌∙◌}
use Prim.Native.Nat.{ℕ, zero, suc, ◌+◌, ◌-◌, ◌*◌, ◌^◌}
use mathlib.Core.Bool.{Bool, true, false, not, cond, ◌&&◌, ◌||◌, beq}
use lib.Dec.{T, eqb, ltb}
use lib.Ieee.{Float, nan, inf, fin, binary64, low, fits, of_bits, neg, is_nan, add, sum, round, units, odd, up, down}
use lib.Ieee.Scale.{finite}
use lib.Ieee.Fits.{round_is}
use lib.Ieee.Order.{drop, kept}
use Rattle.floats.specs.Binary64.{◌⊕◌, bits}
use Rattle.ellipsoid.specs.Figure.{one, exists_of}
use Rattle.permtide.specs.declared.Permtide.{Permtide}
use Rattle.permtide.specs.Record.{from_of, coefficient_of, system_of, in_rule_of}
use Rattle.permtide.specs.Step.{tide_of}
use Rattle.floats.proofs.Finite.{one_more_is_finite}

neg_finite : (x : Float) → T (finite x) → T (finite (neg x))
unfolding neg
neg_finite nan h = absurd h
neg_finite (inf s) h = absurd h
neg_finite (fin s m e) h = tt

bits_finite : T (finite (bits 0)) × T (finite one)
unfolding of_bits
bits_finite = (tt, tt)

-- one of three
chosen : (a b c : Bool) (x y z : Float) → T (finite x) → T (finite y) → T (finite z) → T (a || b || c) → T (finite (cond a x (cond b y (cond c z nan))))
chosen true b c x y z f g h s = f
chosen false true c x y z f g h s = g
chosen false false true x y z f g h s = h
chosen false false false x y z f g h s = absurd s

row : (from : ℕ) (x y z : Float) → T (finite x) → T (finite y) → T (finite z) → T (system_of from) → T (finite (from_of from x y z))
row from = chosen (eqb from 1) (eqb from 2) (eqb from 3)

-- each of the nine
pub coefficient_is_finite : (to from : ℕ) (k : Float) → T (fits binary64 k) → T (finite k) → T (system_of to) → T (system_of from) → T (finite (coefficient_of to from k))
unfolding coefficient_of
coefficient_is_finite to from k f h s t =
    let more = one_more_is_finite k f h in
    let none = bits_finite.0 in
    let whole = bits_finite.1 in
    chosen (eqb to 1) (eqb to 2) (eqb to 3) (from_of from (bits 0) one (one ⊕ k)) (from_of from (neg one) (bits 0) k) (from_of from (neg (one ⊕ k)) (neg k) (bits 0))
    (row from (bits 0) one (one ⊕ k) none whole more t)
    (row from (neg one) (bits 0) k (neg_finite one whole) none h t)
    (row from (neg (one ⊕ k)) (neg k) (bits 0) (neg_finite (one ⊕ k) more) (neg_finite k h) none t)
    s

split : (b c d : Bool) → T (cond b (cond c d false) false) → T c × T d
split true true d h = (tt, h)
split true false d h = absurd h
split false c d h = absurd h

both : (c d : Bool) → T (c && d) → T c × T d
both true d h = (tt, h)
both false d h = absurd h

-- the coefficient of a record within rule 5
pub checked_coefficient_is_finite : (r : Permtide) → T (fits binary64 r.k) → T (in_rule_of r) → T (finite (tide_of r).coefficient)
unfolding tide_of
checked_coefficient_is_finite r f h =
    let t = split (exists_of r.ellipsoid) (finite r.k) (system_of r.to && system_of r.from) h in
    let codes = both (system_of r.to) (system_of r.from) t.1 in
    coefficient_is_finite r.to r.from r.k f t.0 codes.0 codes.1

-- ---- the two tests

number : Float → Bool
number x = not (is_nan x)

number_if : (b : Bool) (x y : Float) → number x ≡ true → number y ≡ true → number (cond b x y) ≡ true
number_if true x y f g = f
number_if false x y f g = g

odd_number : (d : ℕ) (s : Bool) (q k l : ℕ) → number (odd d s q k l) ≡ true
unfolding number is_nan odd
odd_number d s zero k l = refl
odd_number d s (suc q) k l = refl

inf-number : (s : Bool) → number (inf s) ≡ true
unfolding number is_nan
inf-number s = refl

round_number : (s : Bool) (a c : ℕ) → number (round binary64 s a c) ≡ true
unfolding units
round_number s a c =
    let n = a * 2 ^ low binary64 in
    let q = kept 53 n c in
    let k = drop 53 n c in
    ap number (round_is binary64 s a c)
    ∙ number_if (ltb (q * 2 ^ k) (2 ^ 2098)) (odd 54 s q k 1074) (inf s) (odd_number 54 s q k 1074) (inf-number s)

-- no rounding makes a NaN, so neither does 1 + k, for any finite k
one_more_is_a_number : (k : Float) → T (finite k) → number (one ⊕ k) ≡ true
unfolding add sum of_bits
one_more_is_a_number nan h = absurd h
one_more_is_a_number (inf s) h = absurd h
one_more_is_a_number (fin s m e) h =
    let a = 1 * 1 * down e in
    let b = m * up e * 1 in
    let c = 1 * down e in
    number_if (beq false s) (round binary64 false (a + b) c) (cond (ltb a b) (round binary64 s (b - a) c) (round binary64 (false && ltb b a) (a - b) c))
    (round_number false (a + b) c)
    (number_if (ltb a b) (round binary64 s (b - a) c) (round binary64 (false && ltb b a) (a - b) c) (round_number s (b - a) c) (round_number (false && ltb b a) (a - b) c))

neg-number : (x : Float) → number x ≡ true → number (neg x) ≡ true
unfolding number is_nan neg
neg-number nan h = h
neg-number (inf s) h = refl
neg-number (fin s m e) h = refl

finite_number : (x : Float) → T (finite x) → number x ≡ true
unfolding number is_nan
finite_number nan h = absurd h
finite_number (inf s) h = refl
finite_number (fin s m e) h = refl

and_true : (b : Bool) → (b && true) ≡ b
and_true true = refl
and_true false = refl

picked : (a b c s : Bool) (x y z : Float) → number x ≡ s → number y ≡ s → number z ≡ s → number (cond a x (cond b y (cond c z nan))) ≡ ((a || b || c) && s)
unfolding number is_nan
picked true b c s x y z f g h = f
picked false true c s x y z f g h = g
picked false false true s x y z f g h = h
picked false false false s x y z f g h = refl

picked-row : (from : ℕ) (x y z : Float) → number x ≡ true → number y ≡ true → number z ≡ true → number (from_of from x y z) ≡ system_of from
picked-row from x y z f g h = picked (eqb from 1) (eqb from 2) (eqb from 3) true x y z f g h ∙ and_true (system_of from)

number_exactly_if_systems : (to from : ℕ) (k : Float) → T (finite k) → number (coefficient_of to from k) ≡ (system_of to && system_of from)
unfolding coefficient_of
number_exactly_if_systems to from k h =
    let more = one_more_is_a_number k h in
    let none = finite_number (bits 0) bits_finite.0 in
    let whole = finite_number one bits_finite.1 in
    picked (eqb to 1) (eqb to 2) (eqb to 3) (system_of from) (from_of from (bits 0) one (one ⊕ k)) (from_of from (neg one) (bits 0) k) (from_of from (neg (one ⊕ k)) (neg k) (bits 0))
    (picked-row from (bits 0) one (one ⊕ k) none whole more)
    (picked-row from (neg one) (bits 0) k (neg-number one whole) none (finite_number k h))
    (picked-row from (neg (one ⊕ k)) (neg k) (bits 0) (neg-number (one ⊕ k) more) (neg-number k (finite_number k h)) none)

-- rule 5 by the Rust's test
pub in_rule_by_nan : Permtide → Bool
in_rule_by_nan r =
    cond (exists_of r.ellipsoid) (cond (finite r.k) (not (is_nan (coefficient_of r.to r.from r.k))) false) false

one_rule : (b c d n : Bool) → (T c → n ≡ d) → cond b (cond c d false) false ≡ cond b (cond c n false) false
one_rule false c d n h = refl
one_rule true false d n h = refl
one_rule true true d n h = sym (h tt)

-- one rule for every record, whatever its numbers
pub rule_is_the_rusts : (r : Permtide) → in_rule_of r ≡ in_rule_by_nan r
unfolding in_rule_by_nan number
rule_is_the_rusts r =
    one_rule (exists_of r.ellipsoid) (finite r.k) (system_of r.to && system_of r.from) (not (is_nan (coefficient_of r.to r.from r.k)))
    (number_exactly_if_systems r.to r.from r.k)
