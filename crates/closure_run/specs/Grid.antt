-- A closure with a velocity grid (document 02, A1 and A14): when a call is refused, and what it
-- answers and leaves. A grid is always lent here; bytes that hold none break rule 17.
use Rattle.std.specs.Prelude.{ℕ, true, false, cond, List, [], ◌∷◌, ◌++◌, eqb, length, Float}
use Rattle.sheet.specs.declared.Refusal.{Refusal}
use Rattle.sheet.specs.Rules.{Rule, rule, of_call, first_broken}
use Rattle.profile.specs.Profile.{profile_order}
use Rattle.grid_rules.specs.Rules.{refusal17, refusal18}
use Rattle.plans.specs.Lent.{lent_of}
use Rattle.chain.specs.Chain.{chain_of}
use Rattle.chain.specs.Rules.{refusal9}
use Rattle.chain.specs.Grid.{refusal10_with_grid}
use Rattle.closure_report.specs.declared.Report.{Report}
use Rattle.closure_report.specs.Report.{added_of}
use Rattle.closure_run.specs.Closure.{steps_of, refusal15, closed_as, Outcome, outcome, at_start}

-- The list after the chain forward, and that list after the chain inverse. The grid serves both
-- ways: each way looks it up where the tuple then is.
unfoldable pub grid_there_and_back_of : List ℕ → List Float → List ℕ → List ℕ → List Float → List Float
grid_there_and_back_of s velocities marks grid l =
    let lent = lent_of velocities marks grid in (chain_of true lent (steps_of s) (chain_of false lent (steps_of s) l).list).list

-- the sheet's 1 to 8, 25 and 11; then 9, 10, 17 and 18, and 15 the last
unfoldable pub closure_grid_order : ℕ → List ℕ → ℕ → ℕ → List Float → List ℕ → List ℕ → List Rule
closure_grid_order profile s list room velocities marks grid =
    profile_order profile s
    ++ (rule (of_call 9) (refusal9 list)
    ∷ rule (of_call 10) (refusal10_with_grid velocities marks)
    ∷ rule (of_call 17) (refusal17 grid)
    ∷ rule (of_call 18) (refusal18 grid)
    ∷ rule (of_call 15) (refusal15 list room)
    ∷ [])

-- the refusal of a call, by the lengths of list and room
unfoldable pub closure_grid_refusal_of : ℕ → List ℕ → ℕ → ℕ → List Float → List ℕ → List ℕ → Refusal
closure_grid_refusal_of profile s list room velocities marks grid = first_broken (closure_grid_order profile s list room velocities marks grid)

-- Refused: the report and the room as they were. Done: the report with the list added to it, and
-- the list as it came back at the room's start.
unfoldable pub closure_grid_of : Report → ℕ → List ℕ → List Float → List Float → List Float → List ℕ → List ℕ → Outcome
closure_grid_of report profile s l room velocities marks grid =
    let refusal = closure_grid_refusal_of profile s (length l) (length room) velocities marks grid in
    let back = grid_there_and_back_of s velocities marks grid l in
    cond (eqb refusal.number 0)
    (outcome (closed_as refusal (added_of report l back)) (at_start back room))
    (outcome (closed_as refusal report) room)
