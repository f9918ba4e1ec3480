-- What the kept runs and the corrections, flat and over columns, hand to C: done, the word is 0;
-- refused, no fix was redone, counted or met. Assumes nothing.
use native.Mathlib.Omega.{arith}
use mathlib.Core.Path.{◌≡◌, refl, ap, ◌∙◌}
use Prim.Native.Nat.{ℕ, ◌*◌}
use mathlib.Core.Bool.{Bool, true, false}
use mathlib.Core.List.{List, []}
use borrow.Author.Tests.{eqb-true, ne_eqb}
use lib.Dec.{eqb}
use lib.ListN.{length}
use Rattle.std.specs.Prelude.{Result, Ok, Err}
use Rattle.tuple.specs.declared.Tuple.{Tuple}
use Rattle.tally.specs.declared.Tally.{Tally}
use Rattle.tally.specs.Tallies.{no_tally}
use Rattle.sheet.specs.declared.Refusal.{Refusal}
use Rattle.sheet.specs.Rules.{Rule, unless}
use Rattle.sheet.proofs.Order.{Without, Numbered, without_rule, own_without}
use Rattle.sheet.proofs.Unless.{passed_value, failed}
use Rattle.lists.specs.Flat.{put_at}
use Rattle.stretch.specs.Kept.{Kept, before_of}
use Rattle.stretch.specs.KeptColumns.{KeptColumns, flat_list_of, flat_kept_of}
use Rattle.kept.specs.Entries.{order_by, kept_order, keep_refusal_of, correct_refusal_of, shift_in, CorrectOutcome, correct_of, redone_in}
use Rattle.kept_columns.specs.Columns.{list_uneven, kept_uneven, keep_columns_refusal_of, correct_columns_refusal_of, CorrectColumnsOutcome, correct_columns_of}
use Rattle.kept_reach.specs.declared.CorrectedReach.{CorrectedReach}
use Rattle.kept_reach.specs.Reach.{keep_tally_of, fixes_from, met_from, stretch_met_of, told_in}
use Rattle.kept_columns_reach.specs.Reach.{keep_columns_tally_of, stretch_columns_met_of}
use Rattle.codes.specs.Codes.{code_of}
use Rattle.codes.proofs.Clear.{Clear, clear_first, done, refused}
use Rattle.reach_entries.specs.Codes.{correct_told, correct_told_of, correct_columns_told, correct_columns_told_of}

numbered : (s : List ℕ) (nine thirteen : Bool) (later : List Rule) → Numbered later → Numbered (order_by s nine thirteen later)
numbered s nine thirteen later n =
    Without.next (own_without 0 (λ a b. omega arith) (λ e. omega arith) s)
    (without_rule 12 (λ e. omega arith) (without_rule 9 (λ e. omega arith) (without_rule 13 (λ e. omega arith) n)))

-- ---- a fresh run

-- what a fresh run tells of a refusal and of the tally: its word, and the two numbers
abbrev pub Tells : ℕ → ℕ → ℕ → Refusal → Tally → Type 0
Tells code counted met r tally = (code ≡ code_of r) × (counted ≡ tally.count) × (met ≡ tally.met)

module _ (r : Refusal) (tally : Tally) {out : Result Tally Refusal} (e : out ≡ unless r tally) where
  kept-tells : Clear r → {t : Tally} → out ≡ Ok t → Tells 0 t.count t.met r tally
  kept-tells clear ok =
      let value = passed_value _ _ e ok in
      (done _ _ clear e ok, ap (λ (a : Tally). a.count) value, ap (λ (a : Tally). a.met) value)

  refused-tells : ((r.number ≡ 0 → ⊥) → no_tally ≡ tally) → {x : Refusal} → out ≡ Err x → Tells (code_of x) 0 0 r tally
  refused-tells none err =
      let zeros = none (failed _ _ e err) in
      (refused _ _ e err, ap (λ (a : Tally). a.count) zeros, ap (λ (a : Tally). a.met) zeros)

module _ (inverse : Bool) (s : List ℕ) (old : Kept) where
  clear-keep : Clear (keep_refusal_of s old)
  unfolding keep_refusal_of
  clear-keep = clear_first _ (numbered s _ _ [] Without.none)

  none-counted : ((keep_refusal_of s old).number ≡ 0 → ⊥) → no_tally ≡ keep_tally_of inverse s old
  unfolding keep_tally_of
  none-counted h = rw (ne_eqb _ _ h)

  module _ {out : Result Tally Refusal} (e : out ≡ unless (keep_refusal_of s old) (keep_tally_of inverse s old)) where
    pub keep-done : {t : Tally} → out ≡ Ok t → Tells 0 t.count t.met (keep_refusal_of s old) (keep_tally_of inverse s old)
    keep-done ok = kept-tells _ _ e clear-keep ok

    pub keep-refused : {x : Refusal} → out ≡ Err x → Tells (code_of x) 0 0 (keep_refusal_of s old) (keep_tally_of inverse s old)
    keep-refused err = refused-tells _ _ e none-counted err

pub clear_keep_columns : (s : List ℕ) (old : KeptColumns) → Clear (keep_columns_refusal_of s old)
unfolding keep_columns_refusal_of
clear_keep_columns s old = clear_first _ (numbered s _ _ [] Without.none)

module _ (inverse : Bool) (s : List ℕ) (old : KeptColumns) where
  none-counted-columns : ((keep_columns_refusal_of s old).number ≡ 0 → ⊥) → no_tally ≡ keep_columns_tally_of inverse s old
  unfolding keep_columns_tally_of
  none-counted-columns h = rw (ne_eqb _ _ h)

  module _ {out : Result Tally Refusal} (e : out ≡ unless (keep_columns_refusal_of s old) (keep_columns_tally_of inverse s old)) where
    pub keep-columns-done : {t : Tally} → out ≡ Ok t → Tells 0 t.count t.met (keep_columns_refusal_of s old) (keep_columns_tally_of inverse s old)
    keep-columns-done ok = kept-tells _ _ e (clear_keep_columns s old) ok

    pub keep-columns-refused : {x : Refusal} → out ≡ Err x → Tells (code_of x) 0 0 (keep_columns_refusal_of s old) (keep_columns_tally_of inverse s old)
    keep-columns-refused err = refused-tells _ _ e none-counted-columns err

-- ---- a correction of flat lists

module _ (inverse : Bool) (s : List ℕ) (old : Kept) (index : ℕ) (fix : Tuple) where
  abbrev o : CorrectOutcome
  o = correct_of inverse s old index fix

  abbrev met : ℕ
  met = stretch_met_of inverse s old index fix

  clear-correct : Clear (correct_refusal_of s old index)
  unfolding correct_refusal_of
  clear-correct = clear_first _ (numbered s _ _ _ (without_rule 14 (λ e. omega arith) Without.none))

  by-test : (ran : Bool) → eqb (correct_refusal_of s old index).number 0 ≡ ran
      → Clear o.answer.refusal × ((o.answer.refusal.number ≡ 0 → ⊥) → o.answer.redone ≡ 0)
  unfolding correct_of
  by-test true e = rw e (clear-correct, λ h. absurd (h (eqb-true _ _ e)))
  by-test false e = rw e (clear-correct, λ h. refl)

  none-met : o.answer.redone ≡ 0 → 0 ≡ met
  unfolding stretch_met_of
  none-met h = rw h

  module _ {out : Result CorrectedReach Refusal} {after : Kept} (e : (out ≡ told_in o.answer met) × (after ≡ o.kept)) where
    pub correct-done : {n : CorrectedReach} → out ≡ Ok n → (correct_told 0 n.redone after ≡ correct_told_of o) × (n.met ≡ met)
    correct-done ok =
        let value = passed_value _ _ e.0 ok in
        (rw (ap (λ (a : CorrectedReach). a.redone) value, e.1, done _ _ (by-test _ refl).0 e.0 ok), ap (λ (a : CorrectedReach). a.met) value)

    pub correct-refused : {x : Refusal} → out ≡ Err x → (correct_told (code_of x) 0 after ≡ correct_told_of o) × (0 ≡ met)
    correct-refused err =
        let none = (by-test _ refl).1 (failed _ _ e.0 err) in
        (rw (refused _ _ e.0 err, e.1, none), none-met none)

-- ---- a correction of columns

module _ (inverse : Bool) (s : List ℕ) (old : KeptColumns) (index : ℕ) (fix : Tuple) where
  abbrev rows : CorrectColumnsOutcome
  rows = correct_columns_of inverse s old index fix

  abbrev rows_met : ℕ
  rows_met = stretch_columns_met_of inverse s old index fix

  clear-correct-columns : Clear (correct_columns_refusal_of s old index)
  unfolding correct_columns_refusal_of
  clear-correct-columns = clear_first _ (numbered s _ _ _ (without_rule 14 (λ e. omega arith) Without.none))

  columns-by-test : (ran : Bool) → eqb (correct_columns_refusal_of s old index).number 0 ≡ ran
      → Clear rows.answer.refusal × ((rows.answer.refusal.number ≡ 0 → ⊥) → rows.answer.redone ≡ 0)
  unfolding correct_columns_of
  columns-by-test true e = rw e (by-test inverse s (flat_kept_of old) index fix _ refl)
  columns-by-test false e = rw e (clear-correct-columns, λ h. refl)

  columns-none-met : rows.answer.redone ≡ 0 → 0 ≡ rows_met
  unfolding stretch_columns_met_of
  columns-none-met h = rw h

  module _ {out : Result ℕ Refusal} {after : KeptColumns} (e : (out ≡ redone_in rows.answer) × (after ≡ rows.kept)) where
    pub columns-done : {n : ℕ} → out ≡ Ok n → correct_columns_told 0 n after ≡ correct_columns_told_of rows
    columns-done ok = rw (passed_value _ _ e.0 ok, e.1, done _ _ (columns-by-test _ refl).0 e.0 ok)

    pub columns-refused : {x : Refusal} → out ≡ Err x → correct_columns_told (code_of x) 0 after ≡ correct_columns_told_of rows
    columns-refused err = rw (refused _ _ e.0 err, e.1, (columns-by-test _ refl).1 (failed _ _ e.0 err))

  module _ {out : Result CorrectedReach Refusal} {after : KeptColumns} (e : (out ≡ told_in rows.answer rows_met) × (after ≡ rows.kept)) where
    pub columns-reach-done : {n : CorrectedReach} → out ≡ Ok n → (correct_columns_told 0 n.redone after ≡ correct_columns_told_of rows) × (n.met ≡ rows_met)
    columns-reach-done ok =
        let value = passed_value _ _ e.0 ok in
        (rw (ap (λ (a : CorrectedReach). a.redone) value, e.1, done _ _ (columns-by-test _ refl).0 e.0 ok), ap (λ (a : CorrectedReach). a.met) value)

    pub columns-reach-refused : {x : Refusal} → out ≡ Err x → (correct_columns_told (code_of x) 0 after ≡ correct_columns_told_of rows) × (0 ≡ rows_met)
    columns-reach-refused err =
        let none = (columns-by-test _ refl).1 (failed _ _ e.0 err) in
        (rw (refused _ _ e.0 err, e.1, none), columns-none-met none)
