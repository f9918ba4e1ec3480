-- What is true of the decimal that is found, for callers to cite. Assumes nothing.
use mathlib.Core.Path.{◌≡◌, refl, sym, ap, ◌∙◌, subst}
use Prim.Native.Nat.{ℕ, zero, suc, ◌+◌, ◌*◌, ◌^◌, ◌<◌, ◌≤◌}
use native.Mathlib.Omega.{arith}
use native.Mathlib.Nat.{mul-one, mul_assoc, mul_comm, mul-pos, zero-mul, one-le-pow}
use mathlib.Core.Bool.{Bool, true, false, cond, false≢true}
use lib.Dec.{T, eqb}
use borrow.Author.Tests.{eqb-true, eqb-false, ne_eqb}
use lib.IntN.{ℤ, pos}
use lib.Ieee.{Float, nan, inf, fin, binary64, fits, of_int, neg, div, lt, round, up, down}
use lib.Ieee.Fits.{neg-fits, cond-fits, div-fits, down_pos}
use lib.Ieee.Exact.{HasValue}
use lib.Ieee.Back.{round_whole}
use lib.Ieee.Scale.{round_same}
use Rattle.floats.specs.Binary64.{◌⊗◌, ◌⊘◌}
use Rattle.floats.specs.Number.{sign_of, abs_of}
use Rattle.floats.proofs.Laws.{same_are_equal}
use Rattle.std.specs.declared.option.Option.TheVariants.{None}
use Rattle.decimal.specs.declared.Decimal.{Decimal}
use Rattle.decimal.specs.Places.{ten_to, two_to52, whole_of, digits_of, read_of, passes_of, first_from, decimal_of, found}
use Rattle.decimal.proofs.Tens.{ten_is_exact}

-- ---- what was found, of n numbers of places from k on

record From (n : ℕ) (sign : Bool) (a : Float) (k : ℕ) (s : Bool) (d j : ℕ) : Type 0 where
  its-sign : s ≡ sign
  its-digits : d ≡ digits_of a j
  above : k ≤ j
  below : j < k + n
  passed : passes_of a j ≡ true
  before : (i : ℕ) → k ≤ i → i < j → passes_of a i ≡ false

here_or_after : (a : Float) (k j : ℕ) → passes_of a k ≡ false → ((i : ℕ) → k + 1 ≤ i → i < j → passes_of a i ≡ false) → (i : ℕ) → k ≤ i → i < j → passes_of a i ≡ false
here_or_after a k j p rest i h l = by (eqb k i) refl
  where
    by : (b : Bool) → eqb k i ≡ b → passes_of a i ≡ false
    by true e = subst (λ (m : ℕ). passes_of a m ≡ false) (eqb-true k i e) p
    by false e = rest i (omega (arith, eqb-false k i e)) l

found_from : (n : ℕ) (b sign : Bool) (a : Float) (k : ℕ) (s : Bool) (d j : ℕ) → b ≡ passes_of a k → first_from n b sign a k ≡ found s d j → From n sign a k s d j
unfolding first_from
found_from zero b sign a k s d j p e = let z : ◌≡◌ {A = ℕ} 0 1 = cc in absurd (omega arith)
found_from (suc n) true sign a k s d j p e =
    let same : ◌≡◌ {A = Decimal} (record { negative = sign; digits = digits_of a k; places = k }) (record { negative = s; digits = d; places = j }) = cc in
    let es : s ≡ sign = sym (ap (λ (w : Decimal). w.negative) same) in
    let ej : k ≡ j = ap (λ (w : Decimal). w.places) same in
    let ed : d ≡ digits_of a j = sym (ap (λ (w : Decimal). w.digits) same) ∙ ap (digits_of a) ej in
    record { its-sign = es; its-digits = ed; above = omega arith; below = omega arith; passed = subst (λ (m : ℕ). passes_of a m ≡ true) ej (sym p); before = λ i h l. absurd (omega arith) }
found_from (suc n) false sign a k s d j p e =
    let r = found_from n (passes_of a (k + 1)) sign a (k + 1) s d j refl e in
    record {
      its-sign = r.its-sign;
      its-digits = r.its-digits;
      above = omega arith;
      below = omega arith;
      passed = r.passed;
      before = here_or_after a k j (sym p) r.before;
    }

of_x : (x : Float) (s : Bool) (d k : ℕ) → decimal_of x ≡ found s d k → From 23 (sign_of x) (abs_of x) 0 s d k
unfolding decimal_of
of_x x s d k e = found_from 23 (passes_of (abs_of x) 0) (sign_of x) (abs_of x) 0 s d k refl e

-- ---- where nothing was found no number of places passes

none_from : (n : ℕ) (b sign : Bool) (a : Float) (k : ℕ) → b ≡ passes_of a k → first_from n b sign a k ≡ None → (i : ℕ) → k ≤ i → i < k + n → passes_of a i ≡ false
unfolding first_from
none_from zero b sign a k p e i h l = absurd (omega arith)
none_from (suc n) true sign a k p e i h l = let z : ◌≡◌ {A = ℕ} 0 1 = cc in absurd (omega arith)
none_from (suc n) false sign a k p e i h l =
    here_or_after a k (k + suc n) (sym p) (λ m g f. none_from n (passes_of a (k + 1)) sign a (k + 1) refl e m g (omega arith)) i h l

pub none_passes : (x : Float) → decimal_of x ≡ None → (k : ℕ) → k < 23 → passes_of (abs_of x) k ≡ false
unfolding decimal_of
none_passes x e k h = none_from 23 (passes_of (abs_of x) 0) (sign_of x) (abs_of x) 0 refl e k (omega arith) (omega arith)

-- ---- it reads back

abs_fits : (x : Float) → T (fits binary64 x) → T (fits binary64 (abs_of x))
abs_fits x h = cond-fits binary64 (sign_of x) (neg x) x (neg-fits binary64 x h) h

second : (p q : Bool) → cond p q false ≡ true → q ≡ true
second true q e = e
second false q e = let z : q ≡ true = cc in z

passed_reads : (a : Float) (k : ℕ) → T (fits binary64 a) → passes_of a k ≡ true → read_of (digits_of a k) k ≡ a
unfolding passes_of read_of
passed_reads a k h p =
    same_are_equal (read_of (digits_of a k) k) a (div-fits binary64 (of_int binary64 (pos (digits_of a k))) (ten_to k)) h (second (lt (a ⊗ ten_to k) two_to52) _ p)

-- the decimal that is found has the number's sign, and its digits over the power of ten are the
-- number's magnitude
pub reads_back : (x : Float) (s : Bool) (d k : ℕ) → T (fits binary64 x) → decimal_of x ≡ found s d k → (s ≡ sign_of x) × (read_of d k ≡ abs_of x)
reads_back x s d k h e =
    let r = of_x x s d k e in
    (r.its-sign, ap (λ (n : ℕ). read_of n k) r.its-digits ∙ passed_reads (abs_of x) k (abs_fits x h) r.passed)

-- its places pass the test
pub its_places_pass : (x : Float) (s : Bool) (d k : ℕ) → decimal_of x ≡ found s d k → passes_of (abs_of x) k ≡ true
its_places_pass x s d k e = (of_x x s d k e).passed

-- no smaller number of places passes the test, and there are no more than 22
pub fewest_that_pass : (x : Float) (s : Bool) (d k : ℕ) → decimal_of x ≡ found s d k → (k < 23) × ((j : ℕ) → j < k → passes_of (abs_of x) j ≡ false)
fewest_that_pass x s d k e = let r = of_x x s d k e in (omega arith, λ j l. r.before j (omega arith) l)

-- its digits are those of a whole number below 2^52
pub digits_are_few : (x : Float) (s : Bool) (d k : ℕ) → decimal_of x ≡ found s d k → d < 2 ^ 52
unfolding digits_of whole_of
digits_are_few x s d k e = let r = of_x x s d k e in omega (arith, r.its-digits)

-- ---- what reading is

cross : (a b d n u v : ℕ) → a ≡ d * u → b ≡ n * v → a * v * n ≡ d * (b * u)
cross a b d n u v p q = rw (p, q, mul_assoc, mul_assoc) (ap (λ (k : ℕ). d * k) (mul_comm u (v * n) ∙ ap (λ (k : ℕ). k * u) (mul_comm v n)))

not_zero : (l u n v : ℕ) → 0 < n → 0 < v → l * u ≡ n * v → l ≡ 0 → ⊥
not_zero l u n v h k e z = let s : 0 < n * v = mul-pos h k in let w : l * u ≡ 0 = rw (z, zero-mul u) in omega arith

by_parts : (m : ℕ) (e : ℤ) (l : ℕ) (f : ℤ) (d n : ℕ) → 0 < n → m * up e ≡ d * down e → l * up f ≡ n * down f → fin false m e ⊘ fin false l f ≡ round binary64 false d n
unfolding div
by_parts m e l f d n h a b =
    let nz = not_zero l (up f) n (down f) h (down_pos f) b in
    let s : 0 < l * up f * down e = rw b (mul-pos (mul-pos h (down_pos f)) (down_pos e)) in
    rw (ne_eqb l 0 nz) (round_same binary64 false (m * up e * down f) (l * up f * down e) d n s h (cross (m * up e) (l * up f) d n (down e) (down f) a b))

quotient : (x y : Float) (d n : ℕ) → 0 < n → HasValue x false d 1 → HasValue y false n 1 → x ⊘ y ≡ round binary64 false d n
quotient nan y d n h p q = absurd p
quotient (inf s) y d n h p q = absurd p
quotient (fin s m e) nan d n h p q = absurd q
quotient (fin s m e) (inf t) d n h p q = absurd q
quotient (fin true m e) (fin t l f) d n h p q = absurd (false≢true (sym p.0))
quotient (fin false m e) (fin true l f) d n h p q = absurd (false≢true (sym q.0))
quotient (fin false m e) (fin false l f) d n h p q = over (sym (mul-one (m * up e)) ∙ p.1) (sym (mul-one (l * up f)) ∙ q.1)
  where
    over : m * up e ≡ d * down e → l * up f ≡ n * down f → fin false m e ⊘ fin false l f ≡ round binary64 false d n
    over a b = by_parts m e l f d n h a b

-- a decimal's digits over its power of ten is their quotient as whole numbers, rounded once: what a
-- correct reader of the decimal answers
pub read_is_rounded_once : (d k : ℕ) → d ≤ 2 ^ 53 → k < 23 → read_of d k ≡ round binary64 false d (10 ^ k)
unfolding read_of of_int
read_is_rounded_once d k h l = quotient (of_int binary64 (pos d)) (ten_to k) d (10 ^ k) (one-le-pow k 10 (omega arith)) (round_whole binary64 false d h) (ten_is_exact k l)
