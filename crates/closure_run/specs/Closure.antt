-- A closure: a chain forward, then inverse, over a list, and what it adds to a report. When a call
-- is refused, by number, and what it answers and leaves. The order stands in `closure_order`.
use Rattle.std.specs.Prelude.{◌≡◌, ℕ, Result, Bool, true, false, cond, List, [], ◌∷◌, ◌++◌, eqb, ltb, length, drop, Float}
use Rattle.sheet.specs.declared.Entry.{Entry}
use Rattle.sheet.specs.declared.Refusal.{Refusal}
use Rattle.sheet.specs.Layout.{step_count_of, kind_at, entry_at}
use Rattle.sheet.specs.Rules.{Rule, rule, of_call, first_broken, has_deformation, unless}
use Rattle.profile.specs.Profile.{profile_order}
use Rattle.plans.specs.Lent.{lent_of}
use Rattle.chain.specs.Chain.{chain_of, entries_of}
use Rattle.chain.specs.Rules.{refusal9, refusal10}
use Rattle.closure_report.specs.declared.Report.{Report}
use Rattle.closure_report.specs.Report.{Pair, added_of}

-- ---- there and back

-- a sheet's steps
abbrev pub steps_of : List ℕ → List Entry
steps_of s = entries_of (entry_at s) (step_count_of s) 0

-- The list after the chain forward, and that list after the chain inverse. Velocities and marks
-- serve both ways, and no state goes over from the way there to the way back.
unfoldable pub there_and_back_of : List ℕ → List Float → List ℕ → List Float → List Float
there_and_back_of s velocities marks l =
    let lent = lent_of velocities marks [] in (chain_of true lent (steps_of s) (chain_of false lent (steps_of s) l).list).list

-- ---- the rules

-- the room is shorter than the list
unfoldable pub refusal15 : ℕ → ℕ → Bool
refusal15 list room = ltb room list

-- the sheet's 1 to 8, 25 and 11; then 9, 10, and 15 the last
unfoldable pub closure_order : ℕ → List ℕ → ℕ → ℕ → List Float → List ℕ → List Rule
closure_order profile s list room velocities marks =
    profile_order profile s
    ++ (rule (of_call 9) (refusal9 list)
    ∷ rule (of_call 10) (refusal10 (has_deformation (kind_at s) (step_count_of s)) list velocities marks)
    ∷ rule (of_call 15) (refusal15 list room)
    ∷ [])

-- the refusal of a call, by the lengths of list and room
unfoldable pub closure_refusal_of : ℕ → List ℕ → ℕ → ℕ → List Float → List ℕ → Refusal
closure_refusal_of profile s list room velocities marks = first_broken (closure_order profile s list room velocities marks)

-- ---- the answer

-- no refusal and the report with the list, or a refusal and the report as it was
pub record Closed : Type 0 where
  pub refusal : Refusal
  pub report : Report

-- what a function hands out of it: the report, or the refusal
abbrev pub handed_out : Closed → Result Report Refusal
handed_out closed = unless closed.refusal closed.report

abbrev pub closed_as : Refusal → Report → Closed
closed_as refusal report = record { refusal = refusal; report = report }

-- what a call answers, and the room afterwards
pub record Outcome : Type 0 where
  pub answer : Closed
  pub room : List Float

abbrev pub outcome : Closed → List Float → Outcome
outcome answer room = record { answer = answer; room = room }

-- a list at the room's start; what stands behind it stays
abbrev pub at_start : List Float → List Float → List Float
at_start l room = l ++ drop (length l) room

-- Refused: the report and the room as they were. Done: the report with the list added to it, and
-- the list as it came back at the room's start.
unfoldable pub closure_of : Report → ℕ → List ℕ → List Float → List Float → List Float → List ℕ → Outcome
closure_of report profile s l room velocities marks =
    let refusal = closure_refusal_of profile s (length l) (length room) velocities marks in
    let back = there_and_back_of s velocities marks l in
    cond (eqb refusal.number 0)
    (outcome (closed_as refusal (added_of report l back)) (at_start back room))
    (outcome (closed_as refusal report) room)

-- ---- many lists

-- a list, and what is lent for it
pub record Lent : Type 0 where
  pub list : List Float
  pub velocities : List Float
  pub marks : List ℕ

-- the report after one call a list
unfoldable pub closures_of : Report → ℕ → List ℕ → List Float → List Lent → Report
closures_of report profile s room [] = report
closures_of report profile s room (x ∷ xs) =
    let one = closure_of report profile s x.list room x.velocities x.marks in
    closures_of one.answer.report profile s one.room xs

-- each list as it was and as it comes back
unfoldable pub pairs_of : List ℕ → List Lent → List Pair
pairs_of s [] = []
pairs_of s (x ∷ xs) = record { start = x.list; end = there_and_back_of s x.velocities x.marks x.list } ∷ pairs_of s xs

-- no call is refused; a call's refusal looks at the room's length alone, which never changes
pub data NoneRefused (profile : ℕ) (s : List ℕ) (room : ℕ) : List Lent → Type 0 where
  none : NoneRefused profile s room []
  next : {x : Lent} {xs : List Lent} → (closure_refusal_of profile s (length x.list) room x.velocities x.marks).number ≡ 0
      → NoneRefused profile s room xs → NoneRefused profile s room (x ∷ xs)
