-- What is true of a closure with a velocity grid, for callers to cite: when which refusal is given,
-- that a refused call leaves report and room, and what a call that is done leaves. Assumes nothing.
use mathlib.Core.Path.{◌≡◌, refl, sym}
use mathlib.Core.Logic.{◌↔◌}
use Prim.Native.Nat.{ℕ}
use mathlib.Core.List.{List, ◌++◌}
use lib.ListN.{length, drop}
use lib.Ieee.{Float}
use Rattle.sheet.specs.declared.Refusal.{Refusal}
use Rattle.sheet.specs.Given.{FirstBroken}
use Rattle.sheet.proofs.Laws.{first_broken_exactly_when}
use Rattle.closure_report.specs.declared.Report.{Report}
use Rattle.closure_report.specs.Report.{added_of}
use Rattle.closure_run.specs.Closure.{closed_as, outcome}
use Rattle.closure_run.specs.Grid.{grid_there_and_back_of, closure_grid_order, closure_grid_refusal_of, closure_grid_of}
use Rattle.closure_run.proofs.GridAnswers.{grid-closure-refused, grid-closure-done}

-- a refusal is given exactly when its rule is broken and no rule before it is
pub grid_closure_gives_exactly_when : (profile : ℕ) (s : List ℕ) (list room : ℕ) (velocities : List Float) (marks grid : List ℕ) (r : Refusal) → (r.number ≡ 0 → ⊥)
    → (closure_grid_refusal_of profile s list room velocities marks grid ≡ r) ↔ FirstBroken (closure_grid_order profile s list room velocities marks grid) r
unfolding closure_grid_refusal_of
grid_closure_gives_exactly_when profile s list room velocities marks grid r h =
    first_broken_exactly_when (closure_grid_order profile s list room velocities marks grid) r h

module _ (report : Report) (profile : ℕ) (s : List ℕ) (l room velocities : List Float) (marks grid : List ℕ) where
  abbrev refusal : Refusal
  refusal = closure_grid_refusal_of profile s (length l) (length room) velocities marks grid

  abbrev back : List Float
  back = grid_there_and_back_of s velocities marks grid l

  -- on refusal the report and the room stay untouched
  pub grid-refused-untouched : (refusal.number ≡ 0 → ⊥) → closure_grid_of report profile s l room velocities marks grid ≡ outcome (closed_as refusal report) room
  grid-refused-untouched h = sym (grid-closure-refused report profile s l room velocities marks grid refusal refl h)

  -- the report takes the list in; the list as it came back stands at the room's start, and nothing
  -- behind it is touched
  pub grid-list-is-added : refusal.number ≡ 0
      → closure_grid_of report profile s l room velocities marks grid ≡ outcome (closed_as refusal (added_of report l back)) (back ++ drop (length l) room)
  grid-list-is-added done = sym (grid-closure-done report profile s l room velocities marks grid refusal refl done _ _ refl refl)
