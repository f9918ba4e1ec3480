-- When 17 and 18 are given, exactly, and what an accepted grid is known to be, for callers to cite.
-- Assumes nothing.
use mathlib.Core.Path.{◌≡◌, refl, sym, ap, ◌∙◌}
use mathlib.Core.Logic.{⊎_elim}
use Prim.Native.Nat.{ℕ, zero, suc, ◌≤◌, ◌<◌}
use native.Mathlib.Nat.{eq-or-lt_of_le}
use native.Mathlib.Omega.{arith}
use mathlib.Core.Bool.{Bool, true, false, not, cond, ◌&&◌, ◌||◌, true≢false}
use mathlib.Core.List.{List}
use Rattle.std.specs.Prelude.{Result, Ok, Err}
use lib.Dec.{eqb, leb, ltb}
use lib.ListN.{length}
use lib.Ieee.Scale.{finite}
use borrow.Author.Tests.{leb-true, eqb-true, not-false}
use Rattle.grid_rules.specs.Layout.{row_count_of, column_count_of, latitude_spacing_of, longitude_spacing_of, grid_length_of, number_of, numbers_of}
use Rattle.grid_rules.specs.Rules.{count_in_rule, refusal17, refusal18, finite_to, above_zero, first_broken, check_grid_of, unless_broken}

-- ---- the answers

-- two rules, by whether each is broken
abbrev answer_of : Bool → Bool → ℕ
answer_of a b = cond a 17 (cond b 18 0)

by_both : (s : List ℕ) → check_grid_of s ≡ answer_of (refusal17 s) (refusal18 s)
unfolding check_grid_of first_broken
by_both s = refl

is_17 : (a b : Bool) → answer_of a b ≡ 17 → a ≡ true
is_17 true b h = refl
is_17 false true h = absurd (let z : ◌≡◌ {A = ℕ} 18 17 = h in omega arith)
is_17 false false h = absurd (let z : ◌≡◌ {A = ℕ} 0 17 = h in omega arith)

is_18 : (a b : Bool) → answer_of a b ≡ 18 → (a ≡ false) × (b ≡ true)
is_18 true b h = absurd (let z : ◌≡◌ {A = ℕ} 17 18 = h in omega arith)
is_18 false true h = (refl, refl)
is_18 false false h = absurd (let z : ◌≡◌ {A = ℕ} 0 18 = h in omega arith)

is_0 : (a b : Bool) → answer_of a b ≡ 0 → (a ≡ false) × (b ≡ false)
is_0 true b h = absurd (let z : ◌≡◌ {A = ℕ} 17 0 = h in omega arith)
is_0 false true h = absurd (let z : ◌≡◌ {A = ℕ} 18 0 = h in omega arith)
is_0 false false h = (refl, refl)

-- 17 is given exactly where the layout is broken, whatever the numbers are
pub seventeen_exactly : (s : List ℕ) → (check_grid_of s ≡ 17 → refusal17 s ≡ true) × (refusal17 s ≡ true → check_grid_of s ≡ 17)
seventeen_exactly s = (λ h. is_17 (refusal17 s) (refusal18 s) (sym (by_both s) ∙ h), λ h. by_both s ∙ rw h)

-- 18 is given exactly where the layout is kept and a number is not
pub eighteen_exactly : (s : List ℕ) → (check_grid_of s ≡ 18 → (refusal17 s ≡ false) × (refusal18 s ≡ true)) × (refusal17 s ≡ false → refusal18 s ≡ true → check_grid_of s ≡ 18)
eighteen_exactly s = (λ h. is_18 (refusal17 s) (refusal18 s) (sym (by_both s) ∙ h), λ h k. by_both s ∙ rw (h, k))

-- 0 is given exactly where neither is broken
pub accepted_exactly : (s : List ℕ) → (check_grid_of s ≡ 0 → (refusal17 s ≡ false) × (refusal18 s ≡ false)) × (refusal17 s ≡ false → refusal18 s ≡ false → check_grid_of s ≡ 0)
accepted_exactly s = (λ h. is_0 (refusal17 s) (refusal18 s) (sym (by_both s) ∙ h), λ h k. by_both s ∙ rw (h, k))

-- ---- the answer as a function gives it: nothing, or the number of the broken rule

-- that number, and 0 of an answer without one
abbrev number_told : Result Unit ℕ → ℕ
number_told (Ok u) = 0
number_told (Err n) = n

abbrev is_told : Result Unit ℕ → Bool
is_told (Ok u) = false
is_told (Err n) = true

number_stays : (n : ℕ) → number_told (unless_broken n) ≡ n
number_stays n = by (eqb n 0) refl
  where
    by : (b : Bool) → eqb n 0 ≡ b → number_told (cond b (Ok tt) (Err n)) ≡ n
    by true e = sym (eqb-true n 0 e)
    by false e = refl

module _ (n : ℕ) {r : Result Unit ℕ} (h : r ≡ unless_broken n) where
  pub unless_ok : {u : Unit} → r ≡ Ok u → n ≡ 0
  unless_ok e = sym (number_stays n) ∙ ap number_told (sym h ∙ e)

  pub unless_err : {e : ℕ} → r ≡ Err e → e ≡ n
  unless_err e = sym (ap number_told (sym h ∙ e)) ∙ number_stays n

  pub unless_not_0 : {e : ℕ} → r ≡ Err e → n ≡ 0 → ⊥
  unless_not_0 e zeroed = true≢false (sym (ap is_told (sym h ∙ e)) ∙ ap (λ (m : ℕ). is_told (unless_broken m)) zeroed)

-- ---- what is known of an accepted grid

or_l : (a b : Bool) → (a || b) ≡ false → a ≡ false
or_l true b h = absurd (true≢false h)
or_l false b h = refl

or_r : (a b : Bool) → (a || b) ≡ false → b ≡ false
or_r true b h = absurd (true≢false h)
or_r false b h = h

and_l : (a b : Bool) → (a && b) ≡ true → a ≡ true
and_l true b h = refl
and_l false b h = absurd (true≢false (sym h))

and_r : (a b : Bool) → (a && b) ≡ true → b ≡ true
and_r true b h = h
and_r false b h = absurd (true≢false (sym h))

-- a count in rule
pub record Counted (n : ℕ) : Type 0 where
  pub two : 2 ≤ n
  pub most : n ≤ 64

pub counted : {n : ℕ} → count_in_rule n ≡ true → Counted n
counted {n} h = record { two = leb-true 2 n (and_l (leb 2 n) (leb n 64) h); most = leb-true n 64 (and_r (leb 2 n) (leb n 64) h) }

-- a layout that is kept
pub record LaidOut (s : List ℕ) : Type 0 where
  pub rows : Counted (row_count_of s)
  pub columns : Counted (column_count_of s)
  pub long : length s ≡ grid_length_of (row_count_of s) (column_count_of s)

pub laid_out : (s : List ℕ) → refusal17 s ≡ false → LaidOut s
unfolding refusal17
laid_out s h =
    let p1 : Bool = ltb (length s) 8 in
    let p2 : Bool = not (count_in_rule (row_count_of s)) in
    let p3 : Bool = not (count_in_rule (column_count_of s)) in
    let p4 : Bool = not (eqb (length s) (grid_length_of (row_count_of s) (column_count_of s))) in
    let h3 = or_l (p1 || p2 || p3) p4 h in
    record {
      rows = counted (not-false (count_in_rule (row_count_of s)) (or_r p1 p2 (or_l (p1 || p2) p3 h3)));
      columns = counted (not-false (count_in_rule (column_count_of s)) (or_r (p1 || p2) p3 h3));
      long = eqb-true (length s) (grid_length_of (row_count_of s) (column_count_of s)) (not-false (eqb (length s) (grid_length_of (row_count_of s) (column_count_of s))) (or_r (p1 || p2 || p3) p4 h));
    }

-- every number that was asked is finite
pub each_finite : (s : List ℕ) (n k : ℕ) → finite_to s n ≡ true → k < n → finite (number_of s k) ≡ true
unfolding finite_to
each_finite s zero k h l = absurd (not-lt-zero l)
  where
    not-lt-zero : k < 0 → ⊥
    not-lt-zero g = omega arith
each_finite s (suc n) k h l =
    ⊎_elim (λ e. rw e (and_r (finite_to s n) (finite (number_of s n)) h)) (λ g. each_finite s n k (and_l (finite_to s n) (finite (number_of s n)) h) g)
    (eq-or-lt_of_le (at_most_lem l))
  where
    at_most_lem : k < suc n → k ≤ n
    at_most_lem g = omega arith

-- where every number is finite, that is what is asked
pub all_are_finite : (s : List ℕ) (n : ℕ) → ((k : ℕ) → k < n → finite (number_of s k) ≡ true) → finite_to s n ≡ true
unfolding finite_to
all_are_finite s zero h = refl
all_are_finite s (suc n) h = rw (all_are_finite s n (λ k l. h k (omega arith)), h n (omega arith))

-- numbers that are kept
pub record InRule (s : List ℕ) : Type 0 where
  pub numbers : (k : ℕ) → k < numbers_of s → finite (number_of s k) ≡ true
  pub latitude-spacing : above_zero (latitude_spacing_of s) ≡ true
  pub longitude-spacing : above_zero (longitude_spacing_of s) ≡ true

pub in_rule : (s : List ℕ) → refusal18 s ≡ false → InRule s
unfolding refusal18
in_rule s h =
    let p1 : Bool = not (finite_to s (numbers_of s)) in
    let p2 : Bool = not (above_zero (latitude_spacing_of s)) in
    let p3 : Bool = not (above_zero (longitude_spacing_of s)) in
    let h2 = or_l (p1 || p2) p3 h in
    let all = not-false (finite_to s (numbers_of s)) (or_l p1 p2 h2) in
    record {
      numbers = λ k l. each_finite s (numbers_of s) k all l;
      latitude-spacing = not-false (above_zero (latitude_spacing_of s)) (or_r p1 p2 h2);
      longitude-spacing = not-false (above_zero (longitude_spacing_of s)) (or_r (p1 || p2) p3 h);
    }

-- and nothing else is asked of the numbers
pub in_rule_suffices : (s : List ℕ) → InRule s → refusal18 s ≡ false
unfolding refusal18
in_rule_suffices s r = rw (all_are_finite s (numbers_of s) r.numbers, r.latitude-spacing, r.longitude-spacing)
