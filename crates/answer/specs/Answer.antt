-- The programs' answers: from a job's bytes to the bytes of its text.
use Rattle.std.specs.Prelude.{ℕ, Bool, true, false, cond, List, [], eqb, ltb, length, take, drop, Float}
use Rattle.std.specs.declared.option.Option.{Option}
use Rattle.std.specs.declared.option.Option.TheVariants.{Some, None}
use denote.Ref.{Bor}
use Rattle.sheet.specs.Layout.{step_count_of}
use Rattle.tally.specs.Tallies.{counts_of, mets_of}
use Rattle.chain.specs.Rules.{Outcome, shift_of}
use Rattle.chain.specs.Grid.{shift_grid_of}
use Rattle.job.specs.Job.{head_of, end_at, refusal16, asks_inverse, sheet_of, tuples_of, velocities_of, marks_of}
use Rattle.report.specs.Report.{refused_text, ran_text}

-- what is told of a sheet over a list: the run, or the refusal
unfoldable pub told_of : ℕ → Outcome → List ℕ
told_of steps o =
    cond (eqb o.answer.refusal.number 0)
    (ran_text steps (counts_of o.answer.tallies) (mets_of o.answer.tallies) o.list)
    (refused_text o.answer.refusal.number o.answer.refusal.step)

-- whether a velocity grid is lent, and its bytes
unfoldable pub is_lent : Option (Bor (List ℕ)) → Bool
is_lent (Some grid) = true
is_lent None = false

unfoldable pub grid_in : Option (Bor (List ℕ)) → List ℕ
grid_in (Some grid) = grid.now
grid_in None = []

-- a sheet over a list: with a velocity grid where one is lent, else without
abbrev pub lent_shift_of : Bool → List ℕ → Bool → List ℕ → List Float → List Float → List ℕ → Outcome
lent_shift_of gridded grid inverse sheet list velocities marks =
    cond gridded (shift_grid_of inverse sheet list velocities marks grid) (shift_of inverse sheet list velocities marks)

abbrev pub shift_text : Bool → List ℕ → Bool → List ℕ → List Float → List Float → List ℕ → List ℕ
shift_text gridded grid inverse sheet list velocities marks =
    told_of (step_count_of sheet) (lent_shift_of gridded grid inverse sheet list velocities marks)

-- a job's sheet over its list
unfoldable pub lent_job_text : Bool → List ℕ → List ℕ → List ℕ
lent_job_text gridded grid j = shift_text gridded grid (asks_inverse j) (sheet_of j) (tuples_of j) (velocities_of j) (marks_of j)

-- A bad job is 16, before all others.
unfoldable pub lent_answer_of : Bool → List ℕ → List ℕ → List ℕ
lent_answer_of gridded grid j = cond (refusal16 (head_of j) (length j)) (refused_text 16 0) (lent_job_text gridded grid j)

-- ---- the program `shift`: no grid

abbrev pub job_text : List ℕ → List ℕ
job_text j = lent_job_text false [] j

abbrev pub answer_of : List ℕ → List ℕ
answer_of j = lent_answer_of false [] j

-- ---- the program shift_grid (document 02, A1)

-- The grid is all that follows the job; a job without its last bytes is 16.
unfoldable pub grid_answer_of : List ℕ → List ℕ
grid_answer_of b =
    let end = end_at (head_of b) in
    cond (ltb (length b) end) (refused_text 16 0) (lent_answer_of true (drop end b) (take end b))
