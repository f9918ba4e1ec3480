-- What a shift over a record answers: chain's outcome, under the writer's rules.
use Rattle.std.specs.Prelude.{ℕ, Bool, List, Float}
use Rattle.sheet.specs.declared.Sheet.{Sheet}
use Rattle.sheet.specs.Layout.{entry_of, kind_in}
use Rattle.sheet.specs.Rules.{has_deformation}
use Rattle.sheet_writer.specs.Rules.{writer_refusal_of}
use Rattle.chain.specs.Chain.{entries_of}
use Rattle.chain.specs.Rules.{Outcome, outcome_of}
use Rattle.chain.specs.Grid.{grid_outcome_of}

-- Over a record: its own rules are the writer's, in a room that any sheet fits, so that 15 is never
-- given.
unfoldable pub shift_record_of : Bool → Sheet → List Float → List Float → List ℕ → Outcome
shift_record_of inverse sheet l velocities marks =
    outcome_of (writer_refusal_of sheet 4240) (has_deformation (kind_in sheet) sheet.count) inverse (entries_of (entry_of sheet) sheet.count 0) l velocities marks

-- with a velocity grid: chain's outcome with a grid, under the same rules
unfoldable pub shift_record_grid_of : Bool → Sheet → List Float → List Float → List ℕ → List ℕ → Outcome
shift_record_grid_of inverse sheet l velocities marks grid =
    grid_outcome_of (writer_refusal_of sheet 4240) inverse (entries_of (entry_of sheet) sheet.count 0) l velocities marks grid
