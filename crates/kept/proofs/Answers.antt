-- Refusals in their order, and what a call leaves by them. Working definition, which no promise
-- cites: `Passed`. Assumes nothing.
use Prim.Native.Nat.{ℕ, ◌/◌, ◌%◌, ◌≤◌, ◌<◌}
use native.Mathlib.Omega.{arith}
use mathlib.Core.Bool.{Bool, true, false, not, cond}
use mathlib.Core.Path.{◌≡◌, refl, sym, ap, ◌∙◌}
use mathlib.Core.List.{List, [], ◌∷◌}
use lib.Dec.{eqb, ltb}
use lib.ListN.{length}
use borrow.Author.Tests.{eq-eqb, ne_eqb, eqb-true, eqb-false, ltb-true, ltb-false, not-false}
use Rattle.tuple.specs.declared.Tuple.{Tuple}
use Rattle.sheet.specs.declared.Refusal.{Refusal}
use Rattle.sheet.specs.Rules.{rule, accepted, of_call, first_broken, refusal_of}
use Rattle.sheet.proofs.Order.{neither}
use Rattle.sheet.proofs.Unless.{passed_value}
use Rattle.std.specs.Prelude.{Result, Ok}
use Rattle.chain.specs.Rules.{refusal9}
use Rattle.stretch.specs.Kept.{Kept, Redone, fresh_of, corrected_of}
use Rattle.kept.specs.Entries.{Corrected, CorrectOutcome, redone_in, refusal12, refusal13, refusal14, order_by, kept_order, keep_refusal_of, correct_refusal_of, shift_in, reversed_in, keep_of, outcome, corrected_as, correct_of}

-- ---- the order

-- the answer, by whether the sheet has a refusal of its own and by the three rules; `later` where
-- all are kept
abbrev pub in_order : Refusal → Bool → Bool → Bool → Bool → Refusal → Refusal
in_order own none b12 b9 b13 later = cond (not none) own (cond b12 (of_call 12) (cond b9 (of_call 9) (cond b13 (of_call 13) later)))

pub first_stays : (own later : Refusal) (none b12 b9 b13 : Bool) → ((in_order own none b12 b9 b13 accepted).number ≡ 0 → ⊥)
    → in_order own none b12 b9 b13 accepted ≡ in_order own none b12 b9 b13 later
first_stays own later false b12 b9 b13 h = refl
first_stays own later true true b9 b13 h = refl
first_stays own later true false true b13 h = refl
first_stays own later true false false true h = refl
first_stays own later true false false false h = absurd (h refl)

pub all_pass : (own : Refusal) (none b12 b9 b13 : Bool) → (none ≡ false → own.number ≡ 0 → ⊥) → (in_order own none b12 b9 b13 accepted).number ≡ 0
    → (none ≡ true) × (b12 ≡ false) × (b9 ≡ false) × (b13 ≡ false)
all_pass own false b12 b9 b13 h e = absurd (h refl e)
all_pass own true true b9 b13 h e = absurd (omega arith)
all_pass own true false true b13 h e = absurd (omega arith)
all_pass own true false false true h e = absurd (omega arith)
all_pass own true false false false h e = (refl, refl, refl, refl)

-- what holds where the sheet and the three lists pass
pub record Passed (s : List ℕ) (list results track : ℕ) : Type 0 where
  pub own : (refusal_of s).number ≡ 0
  pub one_shift : refusal12 s ≡ false
  pub list-kept : refusal9 list ≡ false
  pub whole : list % 4 ≡ 0
  pub few : list ≤ 8192
  pub long-results : results ≡ list
  pub long-track : track ≡ list

-- by whether rules 9 and 13 are broken
module _ (s : List ℕ) (nine thirteen : Bool) where
  abbrev asked : Refusal
  asked = first_broken (order_by s nine thirteen [])

  pub own-refused : ((refusal_of s).number ≡ 0 → ⊥) → refusal_of s ≡ asked
  unfolding first_broken
  own-refused h = rw (ne_eqb _ _ h)

  pub refused-12 : (refusal_of s).number ≡ 0 → refusal12 s ≡ true → of_call 12 ≡ asked
  unfolding first_broken
  refused-12 h a = rw (eq-eqb _ _ h, a)

  pub refused-9 : (refusal_of s).number ≡ 0 → refusal12 s ≡ false → nine ≡ true → of_call 9 ≡ asked
  unfolding first_broken
  refused-9 h a b = rw (eq-eqb _ _ h, a, b)

  pub refused-13 : (refusal_of s).number ≡ 0 → refusal12 s ≡ false → nine ≡ false → thirteen ≡ true → of_call 13 ≡ asked
  unfolding first_broken
  refused-13 h a b d = rw (eq-eqb _ _ h, a, b, d)

  pub none-refused : (refusal_of s).number ≡ 0 → refusal12 s ≡ false → nine ≡ false → thirteen ≡ false → accepted ≡ asked
  unfolding first_broken
  none-refused h a b d = rw (eq-eqb _ _ h, a, b, d)

module _ (s : List ℕ) (list results track : ℕ) where
  abbrev answer : Refusal
  answer = first_broken (kept_order s list results track [])

  pub passed : answer.number ≡ 0 → Passed s list results track
  unfolding first_broken refusal9 refusal13
  passed e =
      let h = all_pass (refusal_of s) (eqb (refusal_of s).number 0) (refusal12 s) (refusal9 list) (refusal13 list results track) (eqb-false _ _) e in
      let n = neither (not (eqb (list % 4) 0)) (ltb 8192 list) h.2 in
      let d = neither (not (eqb results list)) (not (eqb track list)) h.3 in
      record {
        own = eqb-true _ _ h.0;
        one_shift = h.1;
        list-kept = h.2;
        whole = eqb-true _ _ (not-false _ n.0);
        few = ltb-false _ _ n.1;
        long-results = eqb-true _ _ (not-false _ d.0);
        long-track = eqb-true _ _ (not-false _ d.1);
      }

-- a fix stands at an index that passes
pub below : (list index : ℕ) → refusal14 list index ≡ false → index < list / 4
unfolding refusal14
below list index e = ltb-true _ _ (not-false _ e)

-- ---- a fresh run

module _ (inverse : Bool) (s : List ℕ) (old : Kept) where
  pub keep-refused : ((keep_refusal_of s old).number ≡ 0 → ⊥) → old ≡ keep_of inverse s old
  unfolding keep_of
  keep-refused h = rw (ne_eqb _ _ h)

  pub keep-done : {new : Kept} → (keep_refusal_of s old).number ≡ 0 → new ≡ fresh_of (shift_in s) (reversed_in inverse s) old.list → new ≡ keep_of inverse s old
  unfolding keep_of
  keep-done h e = rw (eq-eqb _ _ h) e

-- ---- a correction

module _ (inverse : Bool) (s : List ℕ) (old : Kept) (index : ℕ) (fix : Tuple) where
  abbrev before-14 : Refusal
  before-14 = keep_refusal_of s old

  abbrev at-14 : Refusal
  at-14 = first_broken (rule (of_call 14) (refusal14 (length old.list) index) ∷ [])

  early : (before-14.number ≡ 0 → ⊥) → before-14 ≡ correct_refusal_of s old index
  unfolding keep_refusal_of correct_refusal_of first_broken
  early h =
      first_stays (refusal_of s) at-14 (eqb (refusal_of s).number 0) (refusal12 s) (refusal9 (length old.list))
      (refusal13 (length old.list) (length old.results) (length old.track)) h

  late : before-14.number ≡ 0 → correct_refusal_of s old index ≡ at-14
  unfolding keep_refusal_of correct_refusal_of first_broken
  late e =
      let h = all_pass (refusal_of s) (eqb (refusal_of s).number 0) (refusal12 s) (refusal9 (length old.list))
      (refusal13 (length old.list) (length old.results) (length old.track)) (eqb-false _ _) e in
      rw (h.0, h.1, h.2, h.3)

  accepted-before : before-14.number ≡ 0 → before-14 ≡ accepted
  unfolding keep_refusal_of first_broken
  accepted-before e =
      let h = all_pass (refusal_of s) (eqb (refusal_of s).number 0) (refusal12 s) (refusal9 (length old.list))
      (refusal13 (length old.list) (length old.results) (length old.track)) (eqb-false _ _) e in
      rw (h.0, h.1, h.2, h.3)

  -- no refusal of a correction: none of a fresh run over the same lists, and a fix stands at the
  -- index
  pub taken : (correct_refusal_of s old index).number ≡ 0 → (before-14.number ≡ 0) × (refusal14 (length old.list) index ≡ false)
  unfolding first_broken
  taken e = by-own (eqb before-14.number 0) refl
    where
      by_index : (b : Bool) → (first_broken (rule (of_call 14) b ∷ [])).number ≡ 0 → b ≡ false
      by_index true z = absurd (omega arith)
      by_index false z = refl

      by-own : (b : Bool) → eqb before-14.number 0 ≡ b → (before-14.number ≡ 0) × (refusal14 (length old.list) index ≡ false)
      by-own true d =
          let h : before-14.number ≡ 0 = eqb-true _ _ d in
          (h, by_index _ (sym (ap (λ (r : Refusal). r.number) (late h)) ∙ e))
      by-own false d =
          let h : before-14.number ≡ 0 → ⊥ = eqb-false _ _ d in
          absurd (h (ap (λ (r : Refusal). r.number) (early h) ∙ e))

  -- and the other way
  pub not-refused : before-14.number ≡ 0 → ltb index (length old.list / 4) ≡ true → (correct_refusal_of s old index).number ≡ 0
  unfolding first_broken refusal14
  not-refused h e = ap (λ (r : Refusal). r.number) (late h) ∙ rw e

  given_back : {r : Refusal} → r ≡ correct_refusal_of s old index → (r.number ≡ 0 → ⊥) → outcome (corrected_as r 0) old ≡ correct_of inverse s old index fix
  unfolding correct_of
  given_back e h = rw (← e, ne_eqb _ _ h)

  pub correct-refused : {r : Refusal} → r ≡ before-14 → (r.number ≡ 0 → ⊥) → outcome (corrected_as r 0) old ≡ correct_of inverse s old index fix
  correct-refused {r} e h = given_back (e ∙ early (λ z. h (ap (λ (q : Refusal). q.number) e ∙ z))) h

  pub correct-refused-14 : before-14.number ≡ 0 → refusal14 (length old.list) index ≡ true → outcome (corrected_as (of_call 14) 0) old ≡ correct_of inverse s old index fix
  unfolding first_broken
  correct-refused-14 h a = given_back (sym (late h ∙ rw a)) (λ z. omega arith)

  pub correct-done : {r : Refusal} {n : ℕ} {new : Kept} → r ≡ before-14 → r.number ≡ 0 → refusal14 (length old.list) index ≡ false
      → record { count = n; kept = new } ≡ corrected_of (shift_in s) (reversed_in inverse s) old index fix
      → outcome (corrected_as r n) new ≡ correct_of inverse s old index fix
  unfolding correct_of first_broken
  correct-done {r} e h a d =
      let z : before-14.number ≡ 0 = sym (ap (λ (q : Refusal). q.number) e) ∙ h in
      let same : r ≡ correct_refusal_of s old index = e ∙ accepted-before z ∙ sym (late z ∙ rw a) in
      rw (← same, eq-eqb _ _ h) (ap (λ (k : Redone). outcome (corrected_as r k.count) k.kept) d)

-- what a correction hands out tells its answer: its outcome is that of how many fixes it redid
pub handed : (o : CorrectOutcome) {out : Result ℕ Refusal} {n : ℕ} {new : Kept} → out ≡ redone_in o.answer → out ≡ Ok n → new ≡ o.kept
    → outcome (corrected_as o.answer.refusal n) new ≡ o
handed o {out} {n} {new} e ok k =
    ap (λ (m : ℕ). outcome (corrected_as o.answer.refusal m) new) (passed_value o.answer.refusal o.answer.redone e ok) ∙ ap (λ (held : Kept). outcome o.answer held) k
