-- What a shift, flat or over columns, hands to C. Its numbers fit 32 bits, so that handing them over
-- cuts nothing: columns of one length tell what the flat list tells, and other columns are refused
-- with zeros. Run, the word is 0, and refused, the numbers are zeros (`Fair`). Working definition,
-- which no promise cites: `Fair`. Assumes nothing.
use Prim.Native.Nat.{ℕ, zero, suc, ◌≤◌}
use native.Mathlib.Omega.{arith}
use mathlib.Core.Path.{◌≡◌, refl, sym, ap, subst}
use mathlib.Core.Bool.{Bool, true, false, cond}
use mathlib.Core.List.{List, []}
use lib.Dec.{eqb}
use lib.ListN.{length, get_or, replicate}
use lib.Ieee.{Float}
use Rattle.std.specs.Prelude.{Result, Ok, Err}
use borrow.Author.Tests.{eqb-true, eqb-false}
use Rattle.tally.specs.declared.Tally.{Tally}
use Rattle.tally.specs.Tallies.{no_tally, each_of, counts_of, mets_of}
use Rattle.tally.proofs.Laws.{each_at}
use Rattle.sheet.specs.declared.Refusal.{Refusal}
use Rattle.sheet.specs.Layout.{step_count_of, kind_at, entry_at}
use Rattle.sheet.specs.Rules.{refusal_of, of_call, has_deformation}
use Rattle.sheet.proofs.Unless.{passed_value, failed}
use Rattle.columns.specs.Columns.{Columns, Level, flat_of}
use Rattle.plans.specs.Lent.{lent_of}
use Rattle.chain.specs.Chain.{Run, chain_of, entries_of}
use Rattle.chain.specs.Rules.{Answer, Outcome, outcome, handed_out, refused_answer, ran_outcome, outcome_of, shift_refusal_of, shift_of}
use Rattle.chain.specs.Columns.{refusal9_columns, columns_refusal_of, ColumnsOutcome, columns_outcome, ran_columns, columns_outcome_of, shift_columns_of}
use Rattle.chain.proofs.Counts.{Small as SmallTally, shift_tells_few}
use Rattle.chain.proofs.Columns.{nine_kept, columns-refused-own, columns-refused-9, columns-give-the-flat-answer}
use Rattle.codes.specs.Codes.{Small, code_of, narrow_of}
use Rattle.codes.proofs.Clear.{Clear, done, refused}
use Rattle.codes.proofs.Counts.{narrow_small}
use Rattle.reach_entries.specs.Codes.{shift_told, shift_told_of, columns_told, columns_told_of}

-- one number of each tally
small_each : (number : Tally → ℕ) → number no_tally ≡ 0 → (tallies : List Tally) → ((i : ℕ) → number (get_or tallies i no_tally) ≤ 2048) → Small (each_of number tallies)
small_each number zero-there tallies few i = omega (arith, each_at number tallies i zero-there, few i)

-- both numbers of each
abbrev Fits : List Tally → Type 0
Fits tallies = Small (counts_of tallies) × Small (mets_of tallies)

both_fit : (tallies : List Tally) → ((i : ℕ) → SmallTally (get_or tallies i no_tally)) → Fits tallies
both_fit tallies few = (small_each (λ (a : Tally). a.count) refl tallies (λ i. (few i).0), small_each (λ (a : Tally). a.met) refl tallies (λ i. (few i).1))

pub shift_fits : (o : Outcome) (inverse : Bool) (s : List ℕ) (l velocities : List Float) (marks : List ℕ)
    → o ≡ shift_of inverse s l velocities marks → Fits o.answer.tallies
shift_fits o inverse s l velocities marks e =
    subst (λ (x : Outcome). Fits x.answer.tallies) (sym e) (both_fit _ (shift_tells_few inverse s l velocities marks))

-- ---- run or refused

record Fair (a : Answer) : Type 0 where
  clear : Clear a.refusal
  zeros : (a.refusal.number ≡ 0 → ⊥) → a.tallies ≡ replicate 16 no_tally

flat-test : (b : Bool) (r : Refusal) (run : Run) (l : List Float) → eqb r.number 0 ≡ b → Fair (cond b (ran_outcome run) (outcome (refused_answer r) l)).answer
flat-test true r run l e = record { clear = λ z. refl; zeros = λ h. absurd (h refl) }
flat-test false r run l e = record { clear = λ z. absurd (eqb-false _ _ e z); zeros = λ h. refl }

columns-test : (b : Bool) (r : Refusal) (run : Run) (c : Columns) → eqb r.number 0 ≡ b → Fair (cond b (ran_columns run) (columns_outcome (refused_answer r) c)).answer
columns-test true r run c e = record { clear = λ z. refl; zeros = λ h. absurd (h refl) }
columns-test false r run c e = record { clear = λ z. absurd (eqb-false _ _ e z); zeros = λ h. refl }

-- ---- a flat list

module _ (inverse : Bool) (s : List ℕ) (l velocities : List Float) (marks : List ℕ) where
  abbrev flat : Outcome
  flat = shift_of inverse s l velocities marks

  flat-fits : Fits flat.answer.tallies
  flat-fits = shift_fits _ inverse s l velocities marks refl

  flat-fair : Fair flat.answer
  unfolding shift_of outcome_of
  flat-fair = flat-test (eqb (shift_refusal_of (refusal_of s) (has_deformation (kind_at s) (step_count_of s)) l velocities marks).number 0)
      (shift_refusal_of (refusal_of s) (has_deformation (kind_at s) (step_count_of s)) l velocities marks)
      (chain_of inverse (lent_of velocities marks []) (entries_of (entry_at s) (step_count_of s) 0) l) l refl

  module _ {out : Result (List Tally) Refusal} {after : List Float} (e : (out ≡ handed_out flat.answer) × (after ≡ flat.list)) where
    pub ran-told : {tallies : List Tally} → out ≡ Ok tallies → shift_told 0 (narrow_of (counts_of tallies)) (narrow_of (mets_of tallies)) after ≡ shift_told_of flat
    ran-told ok = rw (passed_value _ _ e.0 ok, e.1, narrow_small _ flat-fits.0, narrow_small _ flat-fits.1, done _ _ flat-fair.clear e.0 ok)

    pub refused-told : {r : Refusal} → out ≡ Err r → shift_told (code_of r) (replicate 16 0) (replicate 16 0) after ≡ shift_told_of flat
    unfolding each_of
    refused-told err = rw (refused _ _ e.0 err, e.1, flat-fair.zeros (failed _ _ e.0 err))

-- ---- columns

zeros : (m i : ℕ) → get_or {A = Tally} (replicate m no_tally) i no_tally ≡ no_tally
zeros zero i = refl
zeros (suc m) zero = refl
zeros (suc m) (suc i) = zeros m i

none_small : (tally : Tally) → tally ≡ no_tally → SmallTally tally
none_small tally e = (omega (arith, ap (λ (a : Tally). a.count) e), omega (arith, ap (λ (a : Tally). a.met) e))

module _ (inverse : Bool) (s : List ℕ) (c : Columns) (velocities : List Float) (marks : List ℕ) where
  abbrev told : ColumnsOutcome
  told = shift_columns_of inverse s c velocities marks

  refused-few : (r : Refusal) → told ≡ columns_outcome (refused_answer r) c → (i : ℕ) → SmallTally (get_or told.answer.tallies i no_tally)
  refused-few r e i = subst (λ (x : ColumnsOutcome). SmallTally (get_or x.answer.tallies i no_tally)) (sym e) (none_small _ (zeros 16 i))

  by-test : (nine none : Bool) → refusal9_columns (length c.x) (length c.y) (length c.z) (length c.t) ≡ nine → eqb (refusal_of s).number 0 ≡ none
      → (i : ℕ) → SmallTally (get_or told.answer.tallies i no_tally)
  unfolding shift_columns_of
  by-test false none n e i =
      let level : Level c.x c.y c.z c.t = (nine_kept _ _ _ _ n).0 in
      subst (λ (x : Answer). SmallTally (get_or x.tallies i no_tally)) (sym (columns-give-the-flat-answer inverse s c.x c.y c.z c.t velocities marks level))
      (shift_tells_few inverse s (flat_of c.x c.y c.z c.t) velocities marks i)
  by-test true true n e i = refused-few (of_call 9) (columns-refused-9 (refusal_of s) _ inverse _ c velocities marks (eqb-true _ _ e) n) i
  by-test true false n e i = refused-few (refusal_of s) (columns-refused-own (refusal_of s) _ inverse _ c velocities marks (eqb-false _ _ e)) i

  few : (i : ℕ) → SmallTally (get_or told.answer.tallies i no_tally)
  few = by-test _ _ refl refl

pub columns-fit : (o : ColumnsOutcome) (inverse : Bool) (s : List ℕ) (c : Columns) (velocities : List Float) (marks : List ℕ)
    → o ≡ shift_columns_of inverse s c velocities marks → Fits o.answer.tallies
columns-fit o inverse s c velocities marks e =
    subst (λ (x : ColumnsOutcome). Fits x.answer.tallies) (sym e) (both_fit _ (few inverse s c velocities marks))

module _ (inverse : Bool) (s : List ℕ) (c : Columns) (velocities : List Float) (marks : List ℕ) where
  abbrev told_of : ColumnsOutcome
  told_of = shift_columns_of inverse s c velocities marks

  columns-fits : Fits told_of.answer.tallies
  columns-fits = columns-fit _ inverse s c velocities marks refl

  columns-fair : Fair told_of.answer
  unfolding shift_columns_of columns_outcome_of
  columns-fair = columns-test (eqb (columns_refusal_of (refusal_of s) (has_deformation (kind_at s) (step_count_of s)) c velocities marks).number 0)
      (columns_refusal_of (refusal_of s) (has_deformation (kind_at s) (step_count_of s)) c velocities marks)
      (chain_of inverse (lent_of velocities marks []) (entries_of (entry_at s) (step_count_of s) 0) (flat_of c.x c.y c.z c.t)) c refl

  module _ {out : Result (List Tally) Refusal} {after : Columns} (e : (out ≡ handed_out told_of.answer) × (after ≡ told_of.columns)) where
    pub columns-ran-told : {tallies : List Tally} → out ≡ Ok tallies → columns_told 0 (narrow_of (counts_of tallies)) (narrow_of (mets_of tallies)) after ≡ columns_told_of told_of
    columns-ran-told ok = rw (passed_value _ _ e.0 ok, e.1, narrow_small _ columns-fits.0, narrow_small _ columns-fits.1, done _ _ columns-fair.clear e.0 ok)

    pub columns-refused-told : {r : Refusal} → out ≡ Err r → columns_told (code_of r) (replicate 16 0) (replicate 16 0) after ≡ columns_told_of told_of
    unfolding each_of
    columns-refused-told err = rw (refused _ _ e.0 err, e.1, columns-fair.zeros (failed _ _ e.0 err))
