-- When a call is refused, by document 01's numbers, and what it answers and leaves. `refusal12`,
-- `refusal13` and `refusal14` say when the rule of that number is broken.
use Rattle.std.specs.Prelude.{ℕ, ◌/◌, Bool, not, cond, ◌||◌, List, [], ◌∷◌, eqb, ltb, length, Result}
use Rattle.tuple.specs.declared.Tuple.{Tuple}
use Rattle.helmert.specs.declared.Shift.{Shift}
use Rattle.helmert.specs.Record.{zero_helmert}
use Rattle.helmert.specs.Modes.{prepare_of}
use Rattle.badekas.specs.Step.{shift_of as badekas_shift_of}
use Rattle.bodies.specs.declared.Step.{Step}
use Rattle.bodies.specs.declared.Step.TheVariants as step
use Rattle.sheet.specs.declared.Refusal.{Refusal}
use Rattle.sheet.specs.Layout.{step_count_of, kind_at, entry_at}
use Rattle.sheet.specs.Rules.{Rule, rule, of_call, first_broken, refusal_of, unless}
use Rattle.chain.specs.Chain.{reversed_of}
use Rattle.chain.specs.Rules.{refusal9}
use Rattle.stretch.specs.Kept.{Kept, fresh_of, corrected_of}

-- ---- the rules of a kept run

-- kept run: not one Helmert or kind 6 step
unfoldable pub refusal12 : List ℕ → Bool
refusal12 s = not (eqb (step_count_of s) 1) || not (eqb (kind_at s 0) 1 || eqb (kind_at s 0) 6)

-- kept run: results or track not as long as the list (track: 4 numbers a fix)
unfoldable pub refusal13 : ℕ → ℕ → ℕ → Bool
refusal13 list results track = not (eqb results list) || not (eqb track list)

-- corrected fix's index not below the count
unfoldable pub refusal14 : ℕ → ℕ → Bool
refusal14 list index = not (ltb index (list / 4))

-- the order: the sheet's own, 11 the last of them; then 12, 9, 13, of which lengths tell the last
-- two
abbrev pub order_by : List ℕ → Bool → Bool → List Rule → List Rule
order_by s nine thirteen later =
    rule (refusal_of s) (not (eqb (refusal_of s).number 0))
    ∷ rule (of_call 12) (refusal12 s)
    ∷ rule (of_call 9) nine
    ∷ rule (of_call 13) thirteen
    ∷ later

-- the same of three flat lists
abbrev pub kept_order : List ℕ → ℕ → ℕ → ℕ → List Rule → List Rule
kept_order s list results track later = order_by s (refusal9 list) (refusal13 list results track) later

unfoldable pub keep_refusal_of : List ℕ → Kept → Refusal
keep_refusal_of s old = first_broken (kept_order s (length old.list) (length old.results) (length old.track) [])

-- and for a correction 14
unfoldable pub correct_refusal_of : List ℕ → Kept → ℕ → Refusal
correct_refusal_of s old index =
    first_broken
    (kept_order s (length old.list) (length old.results) (length old.track) (rule (of_call 14) (refusal14 (length old.list) index) ∷ []))

-- ---- the one step

-- a step that has no shift stands for none: such a sheet is refused
abbrev pub step_shift_of : Step → Shift
step_shift_of (step.Helmert h) = prepare_of h
step_shift_of (step.Badekas r) = badekas_shift_of r
step_shift_of (step.Cart r) = prepare_of zero_helmert
step_shift_of (step.Permtide r) = prepare_of zero_helmert
step_shift_of (step.Deformation r) = prepare_of zero_helmert
step_shift_of (step.Molodensky r) = prepare_of zero_helmert

-- the shift of the sheet's step, and the direction that it runs in
abbrev pub shift_in : List ℕ → Shift
shift_in s = step_shift_of (entry_at s 0).step

abbrev pub reversed_in : Bool → List ℕ → Bool
reversed_in inverse s = reversed_of inverse (entry_at s 0)

-- ---- the answers

-- what a fresh run leaves; on refusal all three lists as they were
unfoldable pub keep_of : Bool → List ℕ → Kept → Kept
keep_of inverse s old = cond (eqb (keep_refusal_of s old).number 0) (fresh_of (shift_in s) (reversed_in inverse s) old.list) old

-- a refusal, or none and how many fixes were redone
pub record Corrected : Type 0 where
  pub refusal : Refusal
  pub redone : ℕ

-- what a function hands out of it: how many fixes were redone, or the refusal
abbrev pub redone_in : Corrected → Result ℕ Refusal
redone_in answer = unless answer.refusal answer.redone

-- what a correction answers and leaves
pub record CorrectOutcome : Type 0 where
  pub answer : Corrected
  pub kept : Kept

abbrev pub outcome : Corrected → Kept → CorrectOutcome
outcome answer kept = record { answer = answer; kept = kept }

abbrev pub corrected_as : Refusal → ℕ → Corrected
corrected_as refusal redone = record { refusal = refusal; redone = redone }

-- on refusal the count is zero and all three lists are as they were
unfoldable pub correct_of : Bool → List ℕ → Kept → ℕ → Tuple → CorrectOutcome
correct_of inverse s old index fix =
    let refusal = correct_refusal_of s old index in
    let done = corrected_of (shift_in s) (reversed_in inverse s) old index fix in
    cond (eqb refusal.number 0) (outcome (corrected_as refusal done.count) done.kept) (outcome (corrected_as refusal 0) old)
