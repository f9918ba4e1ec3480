-- What a shift hands to C. Its counts fit 32 bits, so that handing them over cuts nothing; run, the
-- word is 0, and refused, the counts are zeros (`Fair`). Working definition, which no promise cites:
-- `Fair`. Assumes nothing.
use Prim.Native.Nat.{ℕ}
use native.Mathlib.Omega.{arith}
use mathlib.Core.Path.{◌≡◌, refl, ap}
use mathlib.Core.Bool.{Bool, true, false, cond}
use mathlib.Core.List.{List, []}
use borrow.Author.Tests.{eqb-false}
use lib.Dec.{eqb}
use lib.ListN.{get_or, replicate}
use lib.Ieee.{Float}
use Rattle.std.specs.Prelude.{Result, Ok, Err}
use Rattle.sheet.specs.declared.Refusal.{Refusal}
use Rattle.sheet.specs.Layout.{step_count_of, kind_at, entry_at}
use Rattle.sheet.specs.Rules.{refusal_of, has_deformation}
use Rattle.sheet.proofs.Unless.{passed_value, failed}
use Rattle.tally.specs.declared.Tally.{Tally}
use Rattle.tally.specs.Tallies.{no_tally, each_of, counts_of}
use Rattle.tally.proofs.Laws.{each_at}
use Rattle.plans.specs.Lent.{lent_of}
use Rattle.chain.specs.Chain.{Run, chain_of, entries_of}
use Rattle.chain.specs.Rules.{Answer, Outcome, outcome, handed_out, refused_answer, ran_outcome, outcome_of, shift_refusal_of, shift_of}
use Rattle.chain.proofs.Counts.{shift_tells_few}
use Rattle.codes.specs.Codes.{Small, code_of, narrow_of}
use Rattle.codes.proofs.Clear.{Clear, done, refused}
use Rattle.codes.proofs.Counts.{narrow_small}
use Rattle.sillfeather.specs.Codes.{handed, handed_of}

pub shift-counts-fit : (o : Outcome) (inverse : Bool) (s : List ℕ) (l velocities : List Float) (marks : List ℕ)
    → o ≡ shift_of inverse s l velocities marks → Small (counts_of o.answer.tallies)
shift-counts-fit o inverse s l velocities marks e i =
    let few = shift_tells_few inverse s l velocities marks i in
    omega (arith, each_at (λ (a : Tally). a.count) o.answer.tallies i refl, ap (λ (x : Outcome). (get_or x.answer.tallies i no_tally).count) e, few.0)

record Fair (a : Answer) : Type 0 where
  clear : Clear a.refusal
  zeros : (a.refusal.number ≡ 0 → ⊥) → a.tallies ≡ replicate 16 no_tally

by-test : (b : Bool) (r : Refusal) (run : Run) (l : List Float) → eqb r.number 0 ≡ b → Fair (cond b (ran_outcome run) (outcome (refused_answer r) l)).answer
by-test true r run l e = record { clear = λ z. refl; zeros = λ h. absurd (h refl) }
by-test false r run l e = record { clear = λ z. absurd (eqb-false _ _ e z); zeros = λ h. refl }

module _ (inverse : Bool) (s : List ℕ) (l velocities : List Float) (marks : List ℕ) where
  abbrev o : Outcome
  o = shift_of inverse s l velocities marks

  fair : Fair o.answer
  unfolding shift_of outcome_of
  fair = by-test (eqb (shift_refusal_of (refusal_of s) (has_deformation (kind_at s) (step_count_of s)) l velocities marks).number 0)
      (shift_refusal_of (refusal_of s) (has_deformation (kind_at s) (step_count_of s)) l velocities marks)
      (chain_of inverse (lent_of velocities marks []) (entries_of (entry_at s) (step_count_of s) 0) l) l refl

  module _ {out : Result (List Tally) Refusal} {after : List Float} (e : (out ≡ handed_out o.answer) × (after ≡ o.list)) where
    pub ran-handed : {tallies : List Tally} → out ≡ Ok tallies → handed 0 (narrow_of (counts_of tallies)) after ≡ handed_of o
    ran-handed ok = rw (passed_value _ _ e.0 ok, e.1, narrow_small _ (shift-counts-fit _ inverse s l velocities marks refl), done _ _ fair.clear e.0 ok)

    pub refused-handed : {r : Refusal} → out ≡ Err r → handed (code_of r) (replicate 16 0) after ≡ handed_of o
    unfolding each_of
    refused-handed err = rw (refused _ _ e.0 err, e.1, fair.zeros (failed _ _ e.0 err))
