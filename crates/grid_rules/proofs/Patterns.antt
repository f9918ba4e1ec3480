-- A pattern of 64 bits is a finite number's just where it and the pattern with the sign turned lie
-- below -infinity's (`finite_by_both`). The larger of two lies below a bound just where both do, so
-- the largest of many tells it of all of them (`worst_tells`). Assumes nothing.
use mathlib.Core.Path.{◌≡◌, refl, sym, ap, ◌∙◌}
use Prim.Native.Nat.{ℕ, zero, suc, ◌+◌, ◌*◌, ◌-◌, ◌/◌, ◌%◌, ◌^◌, ◌≤◌, ◌<◌}
use native.Mathlib.Omega.{arith}
use native.Mathlib.Numerals.{add-one}
use native.Mathlib.Nat.{add-zero, add-suc, le_antisymm}
use mathlib.Core.Bool.{Bool, true, false, not, cond, ◌&&◌, true≢false}
use mathlib.Core.List.{List}
use lib.Dec.{eqb, leb, ltb}
use lib.ListN.{length, take, drop}
use lib.Ieee.{nan, inf, binary64, of_bits, of_fields, odd}
use lib.Ieee.Scale.{finite}
use borrow.Author.Tests.{lt-ltb, le-ltb, leb-true, ltb-true, ltb-false, eq-eqb, ne_eqb}
use Rattle.floats.specs.Binary64.{bits}
use Rattle.words.specs.Words.{number_at}
use Rattle.words.proofs.Laws.{number_in_part}
use Rattle.grid_rules.specs.Layout.{number_of, numbers_of}
use Rattle.grid_rules.specs.Rules.{finite_to, count_in_rule}
use Rattle.grid_rules.specs.Patterns.{below_infinity, larger_of, sign_turned, largest_of, worst_of, eight_finite}

-- ---- one pattern

odd_finite : (d : ℕ) (s : Bool) (q k l : ℕ) → finite (odd d s q k l) ≡ true
unfolding odd
odd_finite d s zero k l = refl
odd_finite d s (suc q) k l = refl

either_way : (a b : Bool) (s : Bool) (q x : ℕ) → finite (cond a (cond b (inf s) nan) (odd 53 s q x 1074)) ≡ not a
either_way true true s q x = refl
either_way true false s q x = refl
either_way false b s q x = odd_finite 53 s q x 1074

by_fields : (s : Bool) (x t : ℕ) → finite (of_fields binary64 s x t) ≡ not (eqb x 2047)
unfolding of_fields
by_fields s zero t = odd_finite 53 s t 0 1074
by_fields s (suc x) t = either_way (eqb (suc x) 2047) (eqb t 0) s (2 ^ 52 + t) x

top_field : (m : ℕ) → m < 0x8000_0000_0000_0000 → not (eqb (m / 0x10_0000_0000_0000) 2047) ≡ ltb m 0x7ff0_0000_0000_0000
top_field m h = by-test (ltb m 0x7ff0_0000_0000_0000) refl
  where
    by-test : (b : Bool) → ltb m 0x7ff0_0000_0000_0000 ≡ b → not (eqb (m / 0x10_0000_0000_0000) 2047) ≡ b
    by-test true e = ap not (ne_eqb (m / 0x10_0000_0000_0000) 2047 (let k = ltb-true m 0x7ff0_0000_0000_0000 e in λ q. omega (arith, k)))
    by-test false e = ap not (eq-eqb (m / 0x10_0000_0000_0000) 2047 (omega (arith, ltb-false m 0x7ff0_0000_0000_0000 e)))

-- a number is finite just where its bits, the sign aside, lie below an infinity's
pub finite_by_bits : (b : ℕ) → finite (bits b) ≡ ltb (b % 0x8000_0000_0000_0000) 0x7ff0_0000_0000_0000
unfolding of_bits
finite_by_bits b =
    by_fields (leb 0x8000_0000_0000_0000 b) (b % 0x8000_0000_0000_0000 / 2 ^ 52) (b % 2 ^ 52)
    ∙ top_field (b % 0x8000_0000_0000_0000) (omega arith)

-- two bounds tell the same of two numbers that stand as far from them
same_side : (a m b n : ℕ) → (a < m → b < n) → (b < n → a < m) → ltb a m ≡ ltb b n
same_side a m b n to back = by-test (ltb b n) refl
  where
    by-test : (d : Bool) → ltb b n ≡ d → ltb a m ≡ d
    by-test true e = lt-ltb a m (back (ltb-true b n e))
    by-test false e = le-ltb a m (not_below (ltb a m) refl)
      where
        not_below : (d : Bool) → ltb a m ≡ d → m ≤ a
        not_below true k = let p = to (ltb-true a m k) in omega (arith, p, ltb-false b n e)
        not_below false k = ltb-false a m k

and_true : (b : Bool) → (b && true) ≡ b
and_true true = refl
and_true false = refl

pub finite_by_both : (p : ℕ) → p < 2 ^ 64 → (below_infinity p && below_infinity (sign_turned p)) ≡ finite (bits p)
unfolding sign_turned
finite_by_both p room = by-test (ltb p 0x8000_0000_0000_0000) refl ∙ sym (finite_by_bits p)
  where
    by-test : (d : Bool) → ltb p 0x8000_0000_0000_0000 ≡ d
        → (below_infinity p && below_infinity (cond d (p + 0x8000_0000_0000_0000) (p - 0x8000_0000_0000_0000))) ≡ ltb (p % 0x8000_0000_0000_0000) 0x7ff0_0000_0000_0000
    by-test true e =
        let h = ltb-true p 0x8000_0000_0000_0000 e in
        rw (lt-ltb p 0xfff0_0000_0000_0000 (omega (arith, h)))
        (same_side (p + 0x8000_0000_0000_0000) 0xfff0_0000_0000_0000 (p % 0x8000_0000_0000_0000) 0x7ff0_0000_0000_0000 (λ k. omega (arith, h)) (λ k. omega (arith, h)))
    by-test false e =
        let h = ltb-false p 0x8000_0000_0000_0000 e in
        rw (lt-ltb (p - 0x8000_0000_0000_0000) 0xfff0_0000_0000_0000 (omega (arith, h)), and_true (below_infinity p))
        (same_side p 0xfff0_0000_0000_0000 (p % 0x8000_0000_0000_0000) 0x7ff0_0000_0000_0000 (λ k. omega (arith, h)) (λ k. omega (arith, h)))

-- ---- many patterns

and_false : (b : Bool) → (b && false) ≡ false
and_false true = refl
and_false false = refl

pub larger_below : (a b m : ℕ) → ltb (larger_of a b) m ≡ (ltb a m && ltb b m)
unfolding larger_of
larger_below a b m = by-test (ltb a b) refl
  where
    above : (d : Bool) → a < b → ltb b m ≡ d → d ≡ (ltb a m && d)
    above true h e = rw (lt-ltb a m (omega (arith, ltb-true b m e)))
    above false h e = sym (and_false (ltb a m))

    under : (d : Bool) → b ≤ a → ltb a m ≡ d → d ≡ (d && ltb b m)
    under true h e = sym (lt-ltb b m (omega (arith, ltb-true a m e)))
    under false h e = refl

    by-test : (d : Bool) → ltb a b ≡ d → ltb (cond d b a) m ≡ (ltb a m && ltb b m)
    by-test true e = above (ltb b m) (ltb-true a b e) refl
    by-test false e = under (ltb a m) (ltb-false a b e) refl

-- pairs of tests, asked in another order
crossed : (a b c d : Bool) → ((a && b) && (c && d)) ≡ ((a && c) && (b && d))
crossed true true c d = refl
crossed true false true d = refl
crossed true false false d = refl
crossed false b c d = refl

abbrev all8 : Bool → Bool → Bool → Bool → Bool → Bool → Bool → Bool → Bool
all8 a b c d e f g h = ((a && b) && (c && d)) && ((e && f) && (g && h))

crossed4 : (a b c d a' b' c' d' : Bool)
    → (((a && b) && (c && d)) && ((a' && b') && (c' && d'))) ≡ (((a && a') && (b && b')) && ((c && c') && (d && d')))
crossed4 a b c d a' b' c' d' = crossed (a && b) (c && d) (a' && b') (c' && d') ∙ rw (crossed a b a' b', crossed c d c' d')

crossed8 : (a b c d e f g h a' b' c' d' e' f' g' h' : Bool)
    → (all8 a b c d e f g h && all8 a' b' c' d' e' f' g' h') ≡ all8 (a && a') (b && b') (c && c') (d && d') (e && e') (f && f') (g && g') (h && h')
crossed8 a b c d e f g h a' b' c' d' e' f' g' h' =
    crossed ((a && b) && (c && d)) ((e && f) && (g && h)) ((a' && b') && (c' && d')) ((e' && f') && (g' && h'))
    ∙ rw (crossed4 a b c d a' b' c' d', crossed4 e f g h e' f' g' h')

largest_below : (p q r s t u v w m : ℕ) → ltb (largest_of p q r s t u v w) m ≡ all8 (ltb p m) (ltb q m) (ltb r m) (ltb s m) (ltb t m) (ltb u m) (ltb v m) (ltb w m)
unfolding largest_of
largest_below p q r s t u v w m = simp larger_below

pub twice : (b : Bool) → b ≡ not (not b)
twice true = refl
twice false = refl

-- counts in rule
pub count_at_most : {n : ℕ} → count_in_rule n ≡ true → n ≤ 64
count_at_most {n} h = leb-true n 64 (last (leb 2 n) h)
  where
    last : (b : Bool) → (b && leb n 64) ≡ true → leb n 64 ≡ true
    last true k = k
    last false k = absurd (true≢false (sym k))

pub worst_tells : (p q r s t u v w : ℕ) → p < 2 ^ 64 → q < 2 ^ 64 → r < 2 ^ 64 → s < 2 ^ 64 → t < 2 ^ 64 → u < 2 ^ 64 → v < 2 ^ 64 → w < 2 ^ 64
    → below_infinity (worst_of p q r s t u v w) ≡ all8 (finite (bits p)) (finite (bits q)) (finite (bits r)) (finite (bits s)) (finite (bits t)) (finite (bits u)) (finite (bits v)) (finite (bits w))
unfolding worst_of
worst_tells p q r s t u v w hp hq hr hs ht hu hv hw =
    larger_below (largest_of p q r s t u v w) _ 0xfff0_0000_0000_0000
    ∙ rw (largest_below p q r s t u v w 0xfff0_0000_0000_0000, largest_below (sign_turned p) (sign_turned q) (sign_turned r) (sign_turned s) (sign_turned t) (sign_turned u) (sign_turned v) (sign_turned w) 0xfff0_0000_0000_0000)
    (crossed8 (below_infinity p) (below_infinity q) (below_infinity r) (below_infinity s) (below_infinity t) (below_infinity u) (below_infinity v) (below_infinity w) (below_infinity (sign_turned p)) (below_infinity (sign_turned q)) (below_infinity (sign_turned r)) (below_infinity (sign_turned s)) (below_infinity (sign_turned t)) (below_infinity (sign_turned u)) (below_infinity (sign_turned v)) (below_infinity (sign_turned w))
    ∙ rw (finite_by_both p hp, finite_by_both q hq, finite_by_both r hr, finite_by_both s hs, finite_by_both t ht, finite_by_both u hu, finite_by_both v hv, finite_by_both w hw))

-- ---- the grid's numbers

pub none_yet : (s : List ℕ) → true ≡ finite_to s 0
unfolding finite_to
none_yet s = refl

-- fewer than 8 bytes hold no number
pub none_there : (s : List ℕ) → length s < 8 → true ≡ finite_to s (numbers_of s)
unfolding finite_to
none_there s h = let none : (length s - 8) / 8 ≡ 0 = omega arith in rw none

-- all that there are
pub all_asked : (s : List ℕ) {k n : ℕ} → k ≤ n → n ≤ k → n ≡ numbers_of s → finite_to s k ≡ finite_to s (numbers_of s)
all_asked s h g e = ap (finite_to s) (le_antisymm h g ∙ e)

one_on : (s : List ℕ) (k n : ℕ) → finite_to s (k + suc n) ≡ (finite_to s (k + n) && finite (number_of s (k + n)))
unfolding finite_to
one_on s k n = rw (add-suc k n)

one_on_here : (s : List ℕ) (k : ℕ) → finite_to s (k + 1) ≡ (finite_to s k && finite (number_of s k))
unfolding finite_to
one_on_here s k = rw (add-one k)

-- a turn of one number, read in a part of eight bytes
pub one_more_finite : (s : List ℕ) (k w z v : ℕ) → below_infinity z ≡ finite (number_at (take (8 + 8 * k + 8 - (8 + 8 * k)) (drop (8 + 8 * k) s)) 0) → v ≡ larger_of w z
    → below_infinity w ≡ finite_to s k → below_infinity v ≡ finite_to s (k + 1)
one_more_finite s k w z v here value before =
    let eight : 8 + 8 * k + 8 - (8 + 8 * k) ≡ 8 = omega arith in
    ap below_infinity value ∙ larger_below w z 0xfff0_0000_0000_0000
    ∙ rw (here, before, eight, number_in_part s (8 + 8 * k) 0 8 (omega arith), add-zero (8 + 8 * k)) (sym (one_on_here s k))

gathered : (t a b c d e f g h : Bool) → (t && all8 a b c d e f g h) ≡ ((((((((t && a) && b) && c) && d) && e) && f) && g) && h)
gathered false a b c d e f g h = refl
gathered true false b c d e f g h = refl
gathered true true false c d e f g h = refl
gathered true true true false d e f g h = refl
gathered true true true true false e f g h = refl
gathered true true true true true false f g h = refl
gathered true true true true true true false g h = refl
gathered true true true true true true true false h = refl
gathered true true true true true true true true h = refl

eight-on : (s : List ℕ) (k : ℕ)
    → finite_to s (k + 8)
    ≡ ((((((((finite_to s k && finite (number_of s k)) && finite (number_of s (k + 1))) && finite (number_of s (k + 2))) && finite (number_of s (k + 3))) && finite (number_of s (k + 4))) && finite (number_of s (k + 5))) && finite (number_of s (k + 6))) && finite (number_of s (k + 7)))
eight-on s k = rw (one_on s k 7, one_on s k 6, one_on s k 5, one_on s k 4, one_on s k 3, one_on s k 2, one_on s k 1, one_on_here s k)

-- a turn of eight numbers, read in a part of 64 bytes
pub eight_more_finite : (s : List ℕ) (k w z v : ℕ) → below_infinity z ≡ eight_finite (take (8 + 8 * k + 64 - (8 + 8 * k)) (drop (8 + 8 * k) s)) → v ≡ larger_of w z
    → below_infinity w ≡ finite_to s k → below_infinity v ≡ finite_to s (k + 8)
unfolding eight_finite
eight_more_finite s k w z v here value before =
    let long : 8 + 8 * k + 64 - (8 + 8 * k) ≡ 64 = omega arith in
    let at : (i : ℕ) → 8 + 8 * k + 8 * i ≡ 8 + 8 * (k + i) = λ i. omega arith in
    ap below_infinity value ∙ larger_below w z 0xfff0_0000_0000_0000
    ∙ rw (
      here,
      before,
      long,
      number_in_part s (8 + 8 * k) 0 64 (omega arith),
      number_in_part s (8 + 8 * k) 8 64 (omega arith),
      number_in_part s (8 + 8 * k) 16 64 (omega arith),
      number_in_part s (8 + 8 * k) 24 64 (omega arith),
      number_in_part s (8 + 8 * k) 32 64 (omega arith),
      number_in_part s (8 + 8 * k) 40 64 (omega arith),
      number_in_part s (8 + 8 * k) 48 64 (omega arith),
      number_in_part s (8 + 8 * k) 56 64 (omega arith),
      add-zero (8 + 8 * k),
      at 1,
      at 2,
      at 3,
      at 4,
      at 5,
      at 6,
      at 7,
    )
    (gathered (finite_to s k) _ _ _ _ _ _ _ _ ∙ sym (eight-on s k))

-- the same in eights: part p from number 8 * p on
pub next_eight_finite : (s : List ℕ) (p w z v : ℕ) → below_infinity z ≡ eight_finite (take (8 + 64 * p + 64 - (8 + 64 * p)) (drop (8 + 64 * p) s)) → v ≡ larger_of w z
    → below_infinity w ≡ finite_to s (8 * p) → below_infinity v ≡ finite_to s (8 * (p + 1))
next_eight_finite s p w z v here value before =
    let from : 8 + 64 * p ≡ 8 + 8 * (8 * p) = omega arith in
    let next : 8 * (p + 1) ≡ 8 * p + 8 = omega arith in
    rw next (eight_more_finite s (8 * p) w z v (rw from at here) value before)
