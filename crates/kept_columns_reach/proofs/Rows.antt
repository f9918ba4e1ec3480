-- What a fresh run and a correction over columns tell, by the laws of the flat lists that the columns
-- stand for. Assumes nothing.
use Prim.Native.Nat.{ℕ, ◌+◌, ◌*◌, ◌-◌, ◌≤◌}
use native.Mathlib.Omega.{arith}
use mathlib.Core.Path.{◌≡◌, refl, sym, ap, ◌∙◌}
use mathlib.Core.Bool.{Bool, true, false, cond}
use mathlib.Core.List.{List, [], ◌∷◌}
use lib.Dec.{eqb}
use lib.ListN.{length}
use borrow.Author.Tests.{eq-eqb, ne_eqb, eqb-true, eqb-false}
use Rattle.tuple.specs.declared.Tuple.{Tuple}
use Rattle.helmert.specs.Modes.{start_of}
use Rattle.lists.specs.Flat.{put_at}
use Rattle.columns.proofs.Laws.{flat-length}
use Rattle.sheet.specs.declared.Refusal.{Refusal}
use Rattle.sheet.specs.Rules.{rule, of_call, first_broken, refusal_of}
use Rattle.tally.specs.declared.Tally.{Tally}
use Rattle.tally.specs.Tallies.{no_tally}
use Rattle.plans.specs.Passes.{tally_of}
use Rattle.stretch.specs.Kept.{before_of}
use Rattle.stretch.specs.KeptColumns.{KeptColumns, flat_list_of, flat_kept_of, kept_columns_of, LevelColumns, AllLevel}
use Rattle.kept.specs.Entries.{Corrected, refusal12, refusal14, shift_in, reversed_in, CorrectOutcome, outcome, corrected_as, correct_of}
use Rattle.kept.proofs.Answers.{first_stays}
use Rattle.kept_columns.specs.Columns.{list_uneven, kept_uneven, keep_columns_refusal_of, correct_columns_refusal_of, CorrectColumnsOutcome, columns_outcome, correct_columns_of}
use Rattle.kept_columns.proofs.Columns.{passes-level, the-correction-gives-the-old-answer, the-correction-leaves-the-old-lists}
use Rattle.kept_reach.specs.Reach.{fixes_from, met_from, stretch_met_of, time_pass}
use Rattle.kept_reach.proofs.Along.{by-times}
use Rattle.kept_reach.proofs.Stretch.{refused-met, stretch-fits, stretch-met}
use Rattle.kept_columns_reach.specs.Reach.{keep_columns_tally_of, stretch_columns_met_of}

-- ---- a fresh run

module _ (inverse : Bool) (s : List ℕ) (old : KeptColumns) where
  pub columns-none : {tally : Tally} → tally ≡ no_tally → ((keep_columns_refusal_of s old).number ≡ 0 → ⊥) → tally ≡ keep_columns_tally_of inverse s old
  unfolding keep_columns_tally_of
  columns-none e h = rw (ne_eqb _ _ h) e

  module _ (h : (keep_columns_refusal_of s old).number ≡ 0) where
    level : AllLevel old
    level = passes-level s old h

    pub columns-tally : {tally : Tally} → tally ≡ tally_of (time_pass (shift_in s)) 0 (start_of (shift_in s)) (flat_list_of old.list)
        → tally ≡ keep_columns_tally_of inverse s old
    unfolding keep_columns_tally_of
    columns-tally e =
        rw (eq-eqb _ _ h) (e ∙ by-times (reversed_in inverse s) (shift_in s) 0 0 (start_of (shift_in s)) (flat_list_of old.list))

-- ---- a correction

module _ (inverse : Bool) (s : List ℕ) (old : KeptColumns) (index : ℕ) (fix : Tuple) where
  abbrev refusal : Refusal
  refusal = correct_columns_refusal_of s old index

  abbrev flat-done : CorrectOutcome
  flat-done = correct_of inverse s (flat_kept_of old) index fix

  abbrev by-test : Bool → CorrectColumnsOutcome
  by-test b = cond b (columns_outcome flat-done.answer (kept_columns_of flat-done.kept)) (columns_outcome (corrected_as refusal 0) old)

  answered : correct_columns_of inverse s old index fix ≡ by-test (eqb refusal.number 0)
  unfolding correct_columns_of
  answered = refl

  -- not refused, so neither was a fresh run over the same columns
  keep-passes : refusal.number ≡ 0 → (keep_columns_refusal_of s old).number ≡ 0
  unfolding keep_columns_refusal_of correct_columns_refusal_of first_broken
  keep-passes z = by (eqb (keep_columns_refusal_of s old).number 0) refl
    where
      by : (b : Bool) → eqb (keep_columns_refusal_of s old).number 0 ≡ b → (keep_columns_refusal_of s old).number ≡ 0
      by true e = eqb-true _ _ e
      by false e =
          let h : (keep_columns_refusal_of s old).number ≡ 0 → ⊥ = eqb-false _ _ e in
          let stays = first_stays (refusal_of s) (first_broken (rule (of_call 14) (refusal14 (4 * length old.list.x) index) ∷ [])) (eqb (refusal_of s).number 0) (refusal12 s) (list_uneven old) (kept_uneven old) h in
          absurd (h (ap (λ (r : Refusal). r.number) stays ∙ z))

  -- the number is that of the flat lists where the answer is
  same_number : (correct_columns_of inverse s old index fix).answer.redone ≡ flat-done.answer.redone
      → stretch_met_of inverse s (flat_kept_of old) index fix ≡ stretch_columns_met_of inverse s old index fix
  unfolding stretch_met_of stretch_columns_met_of
  same_number e =
      ap (λ (n : ℕ). met_from inverse s index (before_of (shift_in s) (flat_list_of old.track) index) (fixes_from (put_at (flat_list_of old.list) (4 * index) fix) index n)) (sym e)

  by-refusal : (b : Bool) → eqb refusal.number 0 ≡ b → ((by-test b).answer.refusal.number ≡ 0 → ⊥) → 0 ≡ stretch_columns_met_of inverse s old index fix
  unfolding stretch_columns_met_of
  by-refusal true e h =
      refused-met inverse s (flat_kept_of old) index fix refl h
      ∙ same_number (ap (λ (o : CorrectColumnsOutcome). o.answer.redone) (answered ∙ ap by-test e))
  by-refusal false e h =
      let none : (correct_columns_of inverse s old index fix).answer.redone ≡ 0 = ap (λ (o : CorrectColumnsOutcome). o.answer.redone) (answered ∙ ap by-test e) in
      sym (ap (λ (n : ℕ). met_from inverse s index (before_of (shift_in s) (flat_list_of old.track) index) (fixes_from (put_at (flat_list_of old.list) (4 * index) fix) index n)) none)

  module _ {done : Corrected} {new : KeptColumns} (e : columns_outcome done new ≡ correct_columns_of inverse s old index fix) where
    pub columns-refused-met : (done.refusal.number ≡ 0 → ⊥) → 0 ≡ stretch_columns_met_of inverse s old index fix
    columns-refused-met h =
        by-refusal (eqb refusal.number 0) refl (λ z. h (ap (λ (o : CorrectColumnsOutcome). o.answer.refusal.number) (e ∙ answered) ∙ z))

    module _ (h : done.refusal.number ≡ 0) where
      accepted-by : (b : Bool) → eqb refusal.number 0 ≡ b → (by-test b).answer.refusal.number ≡ 0 → refusal.number ≡ 0
      accepted-by true q z = eqb-true _ _ q
      accepted-by false q z = z

      none : refusal.number ≡ 0
      none = accepted-by (eqb refusal.number 0) refl (sym (ap (λ (o : CorrectColumnsOutcome). o.answer.refusal.number) (e ∙ answered)) ∙ h)

      even : AllLevel old
      even = passes-level s old (keep-passes none)

      answer-is : done ≡ flat-done.answer
      answer-is = ap (λ (o : CorrectColumnsOutcome). o.answer) e ∙ the-correction-gives-the-old-answer inverse s old even index fix

      kept-is : flat_kept_of new ≡ flat-done.kept
      kept-is = ap (λ (o : CorrectColumnsOutcome). flat_kept_of o.kept) e ∙ the-correction-leaves-the-old-lists inverse s old even index fix

      told : outcome done (flat_kept_of new) ≡ correct_of inverse s (flat_kept_of old) index fix
      told = λ i. outcome (answer-is i) (kept-is i)

      pub list_level : LevelColumns old.list
      list_level = even.0

      -- the stretch lies in the list
      pub rows_fit : 4 * (index + done.redone) ≤ length (flat_list_of new.list)
      rows_fit = stretch-fits inverse s (flat_kept_of old) index fix told h

      -- and in the columns where they are of one length after the call too
      pub rows_in : LevelColumns new.list → index + done.redone ≤ length new.list.x
      rows_in level = let long = flat-length _ _ _ _ level in omega (arith, rows_fit, long)

      -- what the pass finds in the stretch
      pub columns-met : {n : ℕ} → n ≡ (tally_of (time_pass (shift_in s)) 0 (before_of (shift_in s) (flat_list_of new.track) index) (fixes_from (flat_list_of new.list) index done.redone)).met
          → n ≡ stretch_columns_met_of inverse s old index fix
      columns-met en =
          let size : 4 * (index + done.redone) - 4 * index ≡ 4 * done.redone = omega arith in
          stretch-met inverse s (flat_kept_of old) index fix told h (rw size en)
          ∙ same_number (ap (λ (c : Corrected). c.redone) (the-correction-gives-the-old-answer inverse s old even index fix))
