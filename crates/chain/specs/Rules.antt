-- When a call is refused, by document 01's numbers, and what it answers. `refusal9` and
-- `refusal10` say when the rule of that number is broken.
use Rattle.std.specs.Prelude.{ℕ, Result, ◌*◌, ◌/◌, ◌%◌, Bool, false, not, cond, ◌||◌, List, [], ◌∷◌, eqb, ltb, length, replicate, Float}
use Rattle.sheet.specs.declared.Entry.{Entry}
use Rattle.sheet.specs.declared.Refusal.{Refusal}
use Rattle.sheet.specs.Layout.{step_count_of, kind_at, entry_at}
use Rattle.sheet.specs.Rules.{accepted, of_call, rule, first_broken, has_deformation, refusal_of, unless}
use Rattle.tally.specs.declared.Tally.{Tally}
use Rattle.tally.specs.Tallies.{no_tally}
use Rattle.plans.specs.Lent.{lent_of}
use Rattle.chain.specs.Chain.{Run, chain_of, places_of, entries_of}

-- ---- the rules of the lent lists

-- list not of whole tuples, or over 2,048
unfoldable pub refusal9 : ℕ → Bool
refusal9 numbers = not (eqb (numbers % 4) 0) || ltb 8192 numbers

-- a mark over 1
unfoldable pub over_one : List ℕ → Bool
over_one [] = false
over_one (m ∷ marks) = ltb 1 m || over_one marks

-- as many velocities and marks as tuples where a deformation step is there; none without
abbrev pub lent_for : Bool → ℕ → ℕ
lent_for deforms numbers = cond deforms (numbers / 4) 0

-- velocities or marks of wrong length, or a mark over 1
unfoldable pub refusal10 : Bool → ℕ → List Float → List ℕ → Bool
refusal10 deforms numbers velocities marks =
    not (eqb (length velocities) (3 * lent_for deforms numbers)) || not (eqb (length marks) (lent_for deforms numbers)) || over_one marks

-- The order: the sheet's own, 11 the last of them; then 9, then 10.
unfoldable pub shift_refusal_of : Refusal → Bool → List Float → List Float → List ℕ → Refusal
shift_refusal_of own deforms l velocities marks =
    first_broken
    (rule own (not (eqb own.number 0))
    ∷ rule (of_call 9) (refusal9 (length l))
    ∷ rule (of_call 10) (refusal10 deforms (length l) velocities marks)
    ∷ [])

-- the same order, from whether 9 is broken and how many numbers the list has
abbrev pub call_refusal_of : Refusal → Bool → Bool → ℕ → List Float → List ℕ → Refusal
call_refusal_of own nine deforms numbers velocities marks =
    first_broken
    (rule own (not (eqb own.number 0))
    ∷ rule (of_call 9) nine
    ∷ rule (of_call 10) (refusal10 deforms numbers velocities marks)
    ∷ [])

-- ---- the answer

-- no refusal and each step's tally in the sheet's order, how many tuples it counted and how many met
-- an angle out of reach, zeros in the other places; or a refusal and zeros
pub record Answer : Type 0 where
  pub refusal : Refusal
  pub tallies : List Tally

-- what a function hands out of it: the tallies, or the refusal
abbrev pub handed_out : Answer → Result (List Tally) Refusal
handed_out answer = unless answer.refusal answer.tallies

-- what a call answers, and the list afterwards
pub record Outcome : Type 0 where
  pub answer : Answer
  pub list : List Float

abbrev pub outcome : Answer → List Float → Outcome
outcome answer l = record { answer = answer; list = l }

-- refused: zeros, and the list as it was
abbrev pub refused_answer : Refusal → Answer
refused_answer refusal = record { refusal = refusal; tallies = replicate 16 no_tally }

-- run: no refusal, and the tallies in their places
abbrev pub ran_answer : List Tally → Answer
ran_answer tallies = record { refusal = accepted; tallies = tallies }

-- the list after the last step
abbrev pub ran_outcome : Run → Outcome
ran_outcome run = outcome (ran_answer (places_of run.tallies)) run.list

unfoldable pub outcome_of : Refusal → Bool → Bool → List Entry → List Float → List Float → List ℕ → Outcome
outcome_of own deforms inverse es l velocities marks =
    let refusal = shift_refusal_of own deforms l velocities marks in
    cond (eqb refusal.number 0) (ran_outcome (chain_of inverse (lent_of velocities marks []) es l)) (outcome (refused_answer refusal) l)

-- over a sheet's bytes
unfoldable pub shift_of : Bool → List ℕ → List Float → List Float → List ℕ → Outcome
shift_of inverse s l velocities marks =
    outcome_of (refusal_of s) (has_deformation (kind_at s) (step_count_of s)) inverse (entries_of (entry_at s) (step_count_of s) 0) l velocities marks
