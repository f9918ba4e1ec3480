-- A call over columns: when it is refused, and what it answers. Refusal 9 is of the columns'
-- lengths; all else is the call over the flat list that the columns stand for.
use Rattle.std.specs.Prelude.{ℕ, ◌*◌, Bool, not, cond, ◌||◌, List, [], ◌∷◌, eqb, ltb, length, Float}
use Rattle.columns.specs.Columns.{Columns, flat_of, columns_of}
use Rattle.sheet.specs.declared.Entry.{Entry}
use Rattle.sheet.specs.declared.Refusal.{Refusal}
use Rattle.sheet.specs.Layout.{step_count_of, kind_at, entry_at}
use Rattle.sheet.specs.Rules.{of_call, rule, first_broken, has_deformation, refusal_of}
use Rattle.plans.specs.Lent.{lent_of}
use Rattle.chain.specs.Chain.{Run, chain_of, places_of, entries_of}
use Rattle.chain.specs.Rules.{Answer, refusal10, refused_answer, ran_answer}

-- columns of unequal length, or of over 2,048 rows
unfoldable pub refusal9_columns : ℕ → ℕ → ℕ → ℕ → Bool
refusal9_columns x y z t = not (eqb y x) || not (eqb z x) || not (eqb t x) || ltb 2048 x

-- The order of a call over a flat list: the sheet's own, then 9, then 10, four numbers a row.
unfoldable pub columns_refusal_of : Refusal → Bool → Columns → List Float → List ℕ → Refusal
columns_refusal_of own deforms c velocities marks =
    first_broken
    (rule own (not (eqb own.number 0))
    ∷ rule (of_call 9) (refusal9_columns (length c.x) (length c.y) (length c.z) (length c.t))
    ∷ rule (of_call 10) (refusal10 deforms (4 * length c.x) velocities marks)
    ∷ [])

-- what a call answers, and the columns afterwards
pub record ColumnsOutcome : Type 0 where
  pub answer : Answer
  pub columns : Columns

abbrev pub columns_outcome : Answer → Columns → ColumnsOutcome
columns_outcome answer c = record { answer = answer; columns = c }

-- the columns of what the chain makes of the flat list that the columns stand for
abbrev pub ran_columns : Run → ColumnsOutcome
ran_columns run = columns_outcome (ran_answer (places_of run.tallies)) (columns_of run.list)

-- refused: every column as it was
unfoldable pub columns_outcome_of : Refusal → Bool → Bool → List Entry → Columns → List Float → List ℕ → ColumnsOutcome
columns_outcome_of own deforms inverse es c velocities marks =
    let refusal = columns_refusal_of own deforms c velocities marks in
    cond (eqb refusal.number 0)
    (ran_columns (chain_of inverse (lent_of velocities marks []) es (flat_of c.x c.y c.z c.t)))
    (columns_outcome (refused_answer refusal) c)

-- over a sheet's bytes
unfoldable pub shift_columns_of : Bool → List ℕ → Columns → List Float → List ℕ → ColumnsOutcome
shift_columns_of inverse s c velocities marks =
    columns_outcome_of (refusal_of s) (has_deformation (kind_at s) (step_count_of s)) inverse (entries_of (entry_at s) (step_count_of s) 0) c velocities marks
