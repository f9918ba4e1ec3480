-- What a closure leaves its caller in C: the refusal as one word, the report's sixteen numbers, and
-- the room.
use Rattle.std.specs.Prelude.{ℕ, cond, List, eqb, Float}
use Rattle.codes.specs.Codes.{code_of}
use Rattle.closure_report.specs.Report.{numbers_of, report_of}
use Rattle.closure_run.specs.Closure.{Outcome, closure_of}
use Rattle.closure_run.specs.Grid.{closure_grid_of}

pub record ClosureTold : Type 0 where
  pub code : ℕ
  pub report : List ℕ
  pub room : List Float

abbrev pub closure_told : ℕ → List ℕ → List Float → ClosureTold
closure_told code report room = record { code = code; report = report; room = room }

-- done: the numbers of the report with the list; refused: the numbers as they were
unfoldable pub closure_told_of : List ℕ → Outcome → ClosureTold
closure_told_of before o =
    closure_told (code_of o.answer.refusal) (cond (eqb o.answer.refusal.number 0) (numbers_of o.answer.report) before) o.room

-- of what C lends
abbrev pub closure_in_c : List ℕ → ℕ → List ℕ → List Float → List Float → List Float → List ℕ → ClosureTold
closure_in_c report profile s list room velocities marks =
    closure_told_of report (closure_of (report_of report) profile s list room velocities marks)

-- with a velocity grid
abbrev pub closure_grid_in_c : List ℕ → ℕ → List ℕ → List Float → List Float → List Float → List ℕ → List ℕ → ClosureTold
closure_grid_in_c report profile s list room velocities marks grid =
    closure_told_of report (closure_grid_of (report_of report) profile s list room velocities marks grid)
