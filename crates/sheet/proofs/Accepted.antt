-- What a sheet that breaks no rule keeps, rule by rule, and that this is all that it takes. Working
-- definitions, which no promise cites: `PlaceKept`, `Accepted`. Assumes nothing.
use mathlib.Core.Path.{◌≡◌, sym, ◌∙◌}
use Prim.Native.Nat.{ℕ, ◌<◌, ◌≤◌}
use mathlib.Core.List.{List}
use mathlib.Core.Bool.{true, false}
use native.Mathlib.Omega.{arith}
use native.Mathlib.Nat.{zero-add}
use borrow.Author.Tests.{eqb-true, eqb-false, ltb-false, not-false, eq-eqb, ne_eqb, le-ltb}
use lib.ListN.{length}
use Rattle.bodies.specs.Kinds.{length_of}
use Rattle.bodies.specs.Rules.{body_in_rule}
use Rattle.sheet.specs.Layout.{form_of, total_length_of, step_count_of, directory_offset_of, kind_at, inverted_at, offset_at, length_at, directory_end, body_at, step_at}
use Rattle.sheet.specs.Rules.{refusal1, refusal2, refusal3, refusal4, refusal5, refusal5_at, refusal11, end_before, place_broken, some_from, five_to_eight, elevens, reader_order, refusal_of, accepted}
use Rattle.sheet.specs.Given.{Unbroken}
use Rattle.sheet.proofs.Order.{all_kept, none_broken, kept_append, kept_left, kept_right, neither, numbered_reader, count_kept}
use Rattle.sheet.proofs.Each.{StepKept, each_step, every-step, each-eleven, every-eleven, each-kept, every-kept}

-- a place of the directory in rule
pub record PlaceKept (s : List ℕ) (i : ℕ) : Type 0 where
  pub a-kind : length_of (kind_at s i) ≡ 0 → ⊥
  pub turned : inverted_at s i ≤ 1
  pub its-length : length_at s i ≡ length_of (kind_at s i)
  pub no_gap : offset_at s i ≡ end_before s i

-- a sheet that no refusal is given of
pub record Accepted (s : List ℕ) : Type 0 where
  pub at_least : 16 ≤ length s
  pub at_most : length s ≤ 4240
  pub total : total_length_of s ≡ length s
  pub form : form_of s ≡ 1
  pub some-step : 0 < step_count_of s
  pub few-steps : step_count_of s ≤ 16
  pub directory : directory_offset_of s ≡ 16
  pub inside : directory_end (step_count_of s) ≤ length s
  pub places : (i : ℕ) → i < step_count_of s → PlaceKept s i
  pub ends : end_before s (step_count_of s) ≡ length s
  pub steps : (i : ℕ) → i < step_count_of s → StepKept (refusal5_at s i) (step_at s i)
  pub one-deformation : (i : ℕ) → i < step_count_of s → refusal11 (kind_at s) i ≡ false

place_kept : (s : List ℕ) (i : ℕ) → place_broken s i ≡ false → PlaceKept s i
unfolding place_broken
place_kept s i e =
    let a = neither _ _ e in
    let b = neither _ _ a.0 in
    let c = neither _ _ b.0 in
    record {
      a-kind = eqb-false _ _ c.0;
      turned = ltb-false _ _ c.1;
      its-length = eqb-true _ _ (not-false _ b.1);
      no_gap = eqb-true _ _ (not-false _ a.1);
    }

keep_place : (s : List ℕ) (i : ℕ) → PlaceKept s i → place_broken s i ≡ false
unfolding place_broken
keep_place s i h =
    rw (
      ne_eqb (length_of (kind_at s i)) 0 h.a-kind,
      le-ltb 1 (inverted_at s i) h.turned,
      eq-eqb (length_at s i) (length_of (kind_at s i)) h.its-length,
      eq-eqb (offset_at s i) (end_before s i) h.no_gap,
    )

module _ (s : List ℕ) where
  from_kept : Unbroken (reader_order s) → Accepted s
  unfolding reader_order refusal1 refusal2 refusal4
  from_kept (Unbroken.next a (Unbroken.next b (Unbroken.next c (Unbroken.next d k)))) =
      let n = step_count_of s in
      let a1 = neither _ _ a in
      let a2 = neither _ _ a1.0 in
      let total : total_length_of s ≡ length s = eqb-true _ _ (not-false _ a1.1) in
      let count = count_kept n c in
      let d1 = neither _ _ d in
      let d2 = neither _ _ d1.0 in
      let d3 = neither _ _ d2.0 in
      let ends : end_before s n ≡ total_length_of s = eqb-true _ _ (not-false _ d1.1) in
      let steps = kept_left (five_to_eight (refusal5_at s) (step_at s) n 0) (elevens (kind_at s) n 0) k in
      let second = kept_right (five_to_eight (refusal5_at s) (step_at s) n 0) (elevens (kind_at s) n 0) k in
      record {
        at_least = ltb-false _ _ a2.0;
        at_most = ltb-false _ _ a2.1;
        total = total;
        form = eqb-true _ _ (not-false _ b);
        some-step = count.0;
        few-steps = count.1;
        directory = eqb-true _ _ (not-false _ d3.0);
        inside = ltb-false _ _ d3.1;
        places = λ i h. place_kept s i (rw zero-add at (each-kept (place_broken s) n 0 i d2.1 h));
        ends = ends ∙ total;
        steps = λ i h. rw zero-add at (each_step (refusal5_at s) (step_at s) n 0 i steps h);
        one-deformation = λ i h. rw zero-add at (each-eleven (kind_at s) n 0 i second h);
      }

  to-kept : Accepted s → Unbroken (reader_order s)
  unfolding reader_order refusal1 refusal2 refusal3 refusal4
  to-kept h =
      let n = step_count_of s in
      let some : (n ≡ 0) → ⊥ = λ e. omega (arith, h.some-step, e) in
      let places : some_from (place_broken s) n 0 ≡ false = every-kept (place_broken s) n 0 (λ i l. rw zero-add (keep_place s i (h.places i l))) in
      let ends : end_before s n ≡ total_length_of s = h.ends ∙ sym h.total in
      let one : refusal1 s ≡ false = rw (le-ltb (length s) 16 h.at_least, le-ltb 4240 (length s) h.at_most, eq-eqb (total_length_of s) (length s) h.total) in
      let two : refusal2 s ≡ false = rw (eq-eqb (form_of s) 1 h.form) in
      let three : refusal3 n ≡ false = rw (ne_eqb n 0 some, le-ltb 16 n h.few-steps) in
      let four : refusal4 s ≡ false =
      rw (eq-eqb (directory_offset_of s) 16 h.directory, le-ltb (length s) (directory_end n) h.inside, places, eq-eqb (end_before s n) (total_length_of s) ends) in
      Unbroken.next one (Unbroken.next two (Unbroken.next three (Unbroken.next four
      (kept_append (every-step (refusal5_at s) (step_at s) n 0 (λ i l. rw zero-add (h.steps i l)))
      (every-eleven (kind_at s) n 0 (λ i l. rw zero-add (h.one-deformation i l)))))))

  -- no refusal is given exactly when the sheet keeps every rule
  pub accepted-keeps : (refusal_of s).number ≡ 0 → Accepted s
  unfolding refusal_of
  accepted-keeps e = from_kept (all_kept (reader_order s) (numbered_reader s) e)

  pub keeps-accepted : Accepted s → refusal_of s ≡ accepted
  unfolding refusal_of
  keeps-accepted h = none_broken (reader_order s) (to-kept h)

-- a step that keeps 5 has its body in rule
pub body_kept : (s : List ℕ) (i : ℕ) → refusal5_at s i ≡ false → body_in_rule (kind_at s i) (body_at s i) ≡ true
unfolding refusal5
body_kept s i e = not-false _ e
