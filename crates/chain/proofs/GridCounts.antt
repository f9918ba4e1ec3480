-- Neither number of a step's tally is over 2,048 with a grid either. Assumes nothing.
use Prim.Native.Nat.{ℕ}
use mathlib.Core.Path.{◌≡◌, refl, sym, subst}
use mathlib.Core.Bool.{Bool, true, false}
use mathlib.Core.List.{List}
use borrow.Author.Tests.{eqb-true, eqb-false}
use lib.Dec.{eqb}
use lib.ListN.{length, get_or}
use lib.Ieee.{Float}
use Rattle.tally.specs.Tallies.{no_tally}
use Rattle.sheet.specs.declared.Entry.{Entry}
use Rattle.sheet.specs.declared.Refusal.{Refusal}
use Rattle.sheet.specs.Layout.{step_count_of, entry_at}
use Rattle.sheet.specs.Rules.{of_call, refusal_of}
use Rattle.grid_rules.specs.Rules.{check_grid_of}
use Rattle.plans.specs.Lent.{lent_of}
use Rattle.chain.specs.Chain.{entries_of}
use Rattle.chain.specs.Rules.{refusal9, Outcome, outcome, refused_answer}
use Rattle.chain.specs.Grid.{refusal10_with_grid, grid_outcome_of, shift_grid_of}
use Rattle.chain.proofs.Counts.{Small, run_few, none_few}
use Rattle.chain.proofs.Grid.{grid-refused-own, grid-refused-9, grid-refused-10, grid-refused, grid-run-through}

module _ (own : Refusal) (inverse : Bool) (es : List Entry) (l velocities : List Float) (marks grid : List ℕ) where
  abbrev told : Outcome
  told = grid_outcome_of own inverse es l velocities marks grid

  none_told : (r : Refusal) → told ≡ outcome (refused_answer r) l → (i : ℕ) → Small (get_or told.answer.tallies i no_tally)
  none_told r e i = subst (λ (o : Outcome). Small (get_or o.answer.tallies i no_tally)) (sym e) (none_few i)

  by-test : (none nine ten kept : Bool) → eqb own.number 0 ≡ none → refusal9 (length l) ≡ nine → refusal10_with_grid velocities marks ≡ ten → eqb (check_grid_of grid) 0 ≡ kept
      → (i : ℕ) → Small (get_or told.answer.tallies i no_tally)
  by-test false nine ten kept a b c d i = none_told own (grid-refused-own own inverse es l velocities marks grid (eqb-false _ _ a)) i
  by-test true true ten kept a b c d i = none_told (of_call 9) (grid-refused-9 own inverse es l velocities marks grid (eqb-true _ _ a) b) i
  by-test true false true kept a b c d i = none_told (of_call 10) (grid-refused-10 own inverse es l velocities marks grid (eqb-true _ _ a) b c) i
  by-test true false false false a b c d i =
      none_told (of_call (check_grid_of grid)) (grid-refused own inverse es l velocities marks grid (eqb-true _ _ a) b c (eqb-false _ _ d)) i
  by-test true false false true a b c d i =
      subst (λ (o : Outcome). Small (get_or o.answer.tallies i no_tally)) (sym (grid-run-through own inverse es l velocities marks grid (eqb-true _ _ a) b c (eqb-true _ _ d)))
      (run_few (lent_of velocities marks grid) inverse es l b i)

pub shift_grid_tells_few : (inverse : Bool) (s : List ℕ) (l velocities : List Float) (marks grid : List ℕ) (i : ℕ)
    → Small (get_or (shift_grid_of inverse s l velocities marks grid).answer.tallies i no_tally)
unfolding shift_grid_of
shift_grid_tells_few inverse s l velocities marks grid i =
    by-test (refusal_of s) inverse (entries_of (entry_at s) (step_count_of s) 0) l velocities marks grid _ _ _ _ refl refl refl refl i
