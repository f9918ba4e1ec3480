-- What a shift with a grid hands to C. Its numbers fit 32 bits, so that handing them over cuts
-- nothing; run, the word is 0, and refused, the numbers are zeros (`Fair`). Working definition, which
-- no promise cites: `Fair`. Assumes nothing.
use Prim.Native.Nat.{ℕ, ◌≤◌}
use native.Mathlib.Omega.{arith}
use mathlib.Core.Path.{◌≡◌, refl, sym, subst}
use mathlib.Core.Bool.{Bool, true, false, cond}
use mathlib.Core.List.{List}
use borrow.Author.Tests.{eqb-false}
use lib.Dec.{eqb}
use lib.ListN.{length, get_or, replicate}
use lib.Ieee.{Float}
use Rattle.std.specs.Prelude.{Result, Ok, Err}
use Rattle.sheet.specs.declared.Refusal.{Refusal}
use Rattle.sheet.specs.Layout.{step_count_of, entry_at}
use Rattle.sheet.specs.Rules.{refusal_of}
use Rattle.sheet.proofs.Unless.{passed_value, failed}
use Rattle.tally.specs.declared.Tally.{Tally}
use Rattle.tally.specs.Tallies.{no_tally, each_of, counts_of, mets_of}
use Rattle.tally.proofs.Laws.{each_at}
use Rattle.plans.specs.Lent.{lent_of}
use Rattle.chain.specs.Chain.{Run, chain_of, entries_of}
use Rattle.chain.specs.Rules.{refusal9, Answer, Outcome, outcome, handed_out, refused_answer, ran_outcome}
use Rattle.chain.specs.Grid.{grid_refusal_of, grid_outcome_of, shift_grid_of}
use Rattle.chain.proofs.GridCounts.{shift_grid_tells_few}
use Rattle.codes.specs.Codes.{Small, code_of, narrow_of}
use Rattle.codes.proofs.Clear.{Clear, done, refused}
use Rattle.codes.proofs.Counts.{narrow_small}
use Rattle.grid_entries.specs.Codes.{grid_told, grid_told_of}

-- ---- the numbers fit

small_each : (number : Tally → ℕ) → number no_tally ≡ 0 → (tallies : List Tally) → ((i : ℕ) → number (get_or tallies i no_tally) ≤ 2048) → Small (each_of number tallies)
small_each number zero-there tallies few i = omega (arith, each_at number tallies i zero-there, few i)

pub shift_fits : (o : Outcome) (inverse : Bool) (s : List ℕ) (l velocities : List Float) (marks grid : List ℕ)
    → o ≡ shift_grid_of inverse s l velocities marks grid → Small (counts_of o.answer.tallies) × Small (mets_of o.answer.tallies)
shift_fits o inverse s l velocities marks grid e =
    let few = shift_grid_tells_few inverse s l velocities marks grid in
    subst (λ (x : Outcome). Small (counts_of x.answer.tallies) × Small (mets_of x.answer.tallies)) (sym e)
    (small_each (λ (a : Tally). a.count) refl _ (λ i. (few i).0), small_each (λ (a : Tally). a.met) refl _ (λ i. (few i).1))

-- ---- run or refused

record Fair (a : Answer) : Type 0 where
  clear : Clear a.refusal
  zeros : (a.refusal.number ≡ 0 → ⊥) → a.tallies ≡ replicate 16 no_tally

by-test : (b : Bool) (r : Refusal) (run : Run) (l : List Float) → eqb r.number 0 ≡ b → Fair (cond b (ran_outcome run) (outcome (refused_answer r) l)).answer
by-test true r run l e = record { clear = λ z. refl; zeros = λ h. absurd (h refl) }
by-test false r run l e = record { clear = λ z. absurd (eqb-false _ _ e z); zeros = λ h. refl }

module _ (inverse : Bool) (s : List ℕ) (l velocities : List Float) (marks grid : List ℕ) where
  abbrev o : Outcome
  o = shift_grid_of inverse s l velocities marks grid

  fits : Small (counts_of o.answer.tallies) × Small (mets_of o.answer.tallies)
  fits = shift_fits _ inverse s l velocities marks grid refl

  fair : Fair o.answer
  unfolding shift_grid_of grid_outcome_of
  fair = by-test (eqb (grid_refusal_of (refusal_of s) (refusal9 (length l)) velocities marks grid).number 0)
      (grid_refusal_of (refusal_of s) (refusal9 (length l)) velocities marks grid)
      (chain_of inverse (lent_of velocities marks grid) (entries_of (entry_at s) (step_count_of s) 0) l) l refl

  module _ {out : Result (List Tally) Refusal} {after : List Float} (e : (out ≡ handed_out o.answer) × (after ≡ o.list)) where
    pub ran-told : {tallies : List Tally} → out ≡ Ok tallies → grid_told 0 (narrow_of (counts_of tallies)) (narrow_of (mets_of tallies)) after ≡ grid_told_of o
    ran-told ok = rw (passed_value _ _ e.0 ok, e.1, narrow_small _ fits.0, narrow_small _ fits.1, done _ _ fair.clear e.0 ok)

    pub refused-told : {r : Refusal} → out ≡ Err r → grid_told (code_of r) (replicate 16 0) (replicate 16 0) after ≡ grid_told_of o
    unfolding each_of
    refused-told err = rw (refused _ _ e.0 err, e.1, fair.zeros (failed _ _ e.0 err))
