-- What C is told of a closure that is refused, and of one that is done: refused, the report is as
-- it was; done, the word is 0 (`clear`, `grid-clear`). Assumes nothing.
use native.Mathlib.Omega.{arith}
use mathlib.Core.Path.{◌≡◌, refl, sym, ap, ◌∙◌}
use Prim.Native.Nat.{ℕ}
use mathlib.Core.Bool.{Bool, true, false}
use mathlib.Core.List.{List}
use borrow.Author.Tests.{eqb-false, eq-eqb, ne_eqb}
use lib.Dec.{eqb}
use lib.ListN.{length}
use lib.Ieee.{Float}
use Rattle.std.specs.Prelude.{Result, Ok, Err}
use Rattle.sheet.specs.declared.Refusal.{Refusal}
use Rattle.sheet.proofs.Order.{Without, Numbered, without_append, without_rule}
use Rattle.sheet.proofs.Unless.{passed, passed_value, failed}
use Rattle.profile.specs.Profile.{profile_order, profile_refusal_of}
use Rattle.profile.proofs.Laws.{numbered-order}
use Rattle.codes.specs.Codes.{code_of}
use Rattle.codes.proofs.Clear.{Clear, clear_first, done, refused}
use Rattle.closure_report.specs.declared.Report.{Report}
use Rattle.closure_report.specs.Report.{numbers_of}
use Rattle.closure_run.specs.Closure.{Outcome, handed_out, closure_order, closure_refusal_of, closure_of}
use Rattle.closure_run.specs.Grid.{closure_grid_order, closure_grid_refusal_of, closure_grid_of}
use Rattle.closure_entries.specs.Told.{closure_told, closure_told_of}

-- ---- a refusal of number 0 is none

pub clear_profile : (profile : ℕ) (s : List ℕ) → Clear (profile_refusal_of profile s)
unfolding profile_refusal_of
clear_profile profile s = clear_first (profile_order profile s) (numbered-order s profile)

module _ (report : Report) (profile : ℕ) (s : List ℕ) (l room velocities : List Float) (marks : List ℕ) where
  numbered : Numbered (closure_order profile s (length l) (length room) velocities marks)
  unfolding closure_order
  numbered =
      without_append {l = profile_order profile s} (numbered-order s profile)
      (without_rule 9 (λ e. omega arith) (without_rule 10 (λ e. omega arith) (without_rule 15 (λ e. omega arith) Without.none)))

  clear-refusal : Clear (closure_refusal_of profile s (length l) (length room) velocities marks)
  unfolding closure_refusal_of
  clear-refusal = clear_first (closure_order profile s (length l) (length room) velocities marks) numbered

  by-test : (ran : Bool) → eqb (closure_refusal_of profile s (length l) (length room) velocities marks).number 0 ≡ ran
      → Clear (closure_of report profile s l room velocities marks).answer.refusal
  unfolding closure_of
  by-test true e = rw e clear-refusal
  by-test false e = rw e clear-refusal

  pub clear : Clear (closure_of report profile s l room velocities marks).answer.refusal
  clear = by-test _ refl

  module _ (grid : List ℕ) where
    grid-numbered : Numbered (closure_grid_order profile s (length l) (length room) velocities marks grid)
    unfolding closure_grid_order
    grid-numbered =
        without_append {l = profile_order profile s} (numbered-order s profile)
        (without_rule 9 (λ e. omega arith)
        (without_rule 10 (λ e. omega arith)
        (without_rule 17 (λ e. omega arith) (without_rule 18 (λ e. omega arith) (without_rule 15 (λ e. omega arith) Without.none)))))

    grid-clear-refusal : Clear (closure_grid_refusal_of profile s (length l) (length room) velocities marks grid)
    unfolding closure_grid_refusal_of
    grid-clear-refusal = clear_first (closure_grid_order profile s (length l) (length room) velocities marks grid) grid-numbered

    grid-by-test : (ran : Bool) → eqb (closure_grid_refusal_of profile s (length l) (length room) velocities marks grid).number 0 ≡ ran
        → Clear (closure_grid_of report profile s l room velocities marks grid).answer.refusal
    unfolding closure_grid_of
    grid-by-test true e = rw e grid-clear-refusal
    grid-by-test false e = rw e grid-clear-refusal

    pub grid-clear : Clear (closure_grid_of report profile s l room velocities marks grid).answer.refusal
    grid-clear = grid-by-test _ refl

-- ---- what is told

module _ (before : List ℕ) (o : Outcome) {out : Result Report Refusal} {room : List Float} (e : (out ≡ handed_out o.answer) × (room ≡ o.room)) where
  pub told-refused : {r : Refusal} → out ≡ Err r → closure_told (code_of r) before room ≡ closure_told_of before o
  unfolding closure_told_of
  told-refused err = rw (refused _ _ e.0 err, e.1, ne_eqb o.answer.refusal.number 0 (failed _ _ e.0 err))

  pub told-done : Clear o.answer.refusal → {after : Report} → out ≡ Ok after → closure_told 0 (numbers_of after) room ≡ closure_told_of before o
  unfolding closure_told_of
  told-done none ok = rw (passed_value _ _ e.0 ok, e.1, eq-eqb o.answer.refusal.number 0 (passed _ _ e.0 ok), done _ _ none e.0 ok)
