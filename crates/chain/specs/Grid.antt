-- A call with a velocity grid (document 02, A1): when it is refused, and what it answers. A grid is
-- always lent here, whether or not the sheet deforms; bytes that hold none break rule 17.
use Rattle.std.specs.Prelude.{ℕ, Bool, false, not, cond, List, [], ◌∷◌, eqb, length, Float}
use Rattle.columns.specs.Columns.{Columns, flat_of}
use Rattle.sheet.specs.declared.Entry.{Entry}
use Rattle.sheet.specs.declared.Refusal.{Refusal}
use Rattle.sheet.specs.Layout.{step_count_of, entry_at}
use Rattle.sheet.specs.Rules.{of_call, rule, first_broken, refusal_of}
use Rattle.grid_rules.specs.Rules.{refusal17, refusal18}
use Rattle.plans.specs.Lent.{lent_of}
use Rattle.chain.specs.Chain.{chain_of, entries_of}
use Rattle.chain.specs.Rules.{refusal9, refusal10, Outcome, outcome, refused_answer, ran_outcome}
use Rattle.chain.specs.Columns.{refusal9_columns, ColumnsOutcome, columns_outcome, ran_columns}

-- With a grid velocities and marks are empty: rule 10 as it stands where no step deforms.
abbrev pub refusal10_with_grid : List Float → List ℕ → Bool
refusal10_with_grid velocities marks = refusal10 false 0 velocities marks

-- The order, from whether 9 is broken: the sheet's own, then 9, 10, 17 and 18.
unfoldable pub grid_refusal_of : Refusal → Bool → List Float → List ℕ → List ℕ → Refusal
grid_refusal_of own nine velocities marks grid =
    first_broken
    (rule own (not (eqb own.number 0))
    ∷ rule (of_call 9) nine
    ∷ rule (of_call 10) (refusal10_with_grid velocities marks)
    ∷ rule (of_call 17) (refusal17 grid)
    ∷ rule (of_call 18) (refusal18 grid)
    ∷ [])

-- ---- a flat list

unfoldable pub grid_outcome_of : Refusal → Bool → List Entry → List Float → List Float → List ℕ → List ℕ → Outcome
grid_outcome_of own inverse es l velocities marks grid =
    let refusal = grid_refusal_of own (refusal9 (length l)) velocities marks grid in
    cond (eqb refusal.number 0) (ran_outcome (chain_of inverse (lent_of velocities marks grid) es l)) (outcome (refused_answer refusal) l)

-- over a sheet's bytes
unfoldable pub shift_grid_of : Bool → List ℕ → List Float → List Float → List ℕ → List ℕ → Outcome
shift_grid_of inverse s l velocities marks grid =
    grid_outcome_of (refusal_of s) inverse (entries_of (entry_at s) (step_count_of s) 0) l velocities marks grid

-- ---- columns

-- refused: every column as it was
unfoldable pub columns_grid_outcome_of : Refusal → Bool → List Entry → Columns → List Float → List ℕ → List ℕ → ColumnsOutcome
columns_grid_outcome_of own inverse es c velocities marks grid =
    let refusal = grid_refusal_of own (refusal9_columns (length c.x) (length c.y) (length c.z) (length c.t)) velocities marks grid in
    cond (eqb refusal.number 0)
    (ran_columns (chain_of inverse (lent_of velocities marks grid) es (flat_of c.x c.y c.z c.t)))
    (columns_outcome (refused_answer refusal) c)

-- over a sheet's bytes
unfoldable pub shift_columns_grid_of : Bool → List ℕ → Columns → List Float → List ℕ → List ℕ → ColumnsOutcome
shift_columns_grid_of inverse s c velocities marks grid =
    columns_grid_outcome_of (refusal_of s) inverse (entries_of (entry_at s) (step_count_of s) 0) c velocities marks grid
