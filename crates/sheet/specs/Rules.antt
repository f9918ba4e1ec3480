-- The rules of the sheet by document 01's numbers: `refusal1` to `refusal8` and `refusal11` say
-- when the rule of that number is broken. The order in which they are asked stands in
-- `reader_order`; an answer is the first that is broken. A record's rules and the writer's order
-- stand in sheet_writer.
use Rattle.std.specs.Prelude.{ℕ, zero, suc, ◌+◌, List, [], ◌∷◌, ◌++◌, Bool, false, not, cond, ◌&&◌, ◌||◌, eqb, ltb, length, Result, Ok, Err}
use Rattle.bodies.specs.declared.Step.{Step}
use Rattle.bodies.specs.Kinds.{length_of}
use Rattle.bodies.specs.Rules.{body_in_rule, lacks_convention, lacks_epoch, lacks_duration}
use Rattle.sheet.specs.declared.Refusal.{Refusal}
use Rattle.sheet.specs.declared.Sheet.{Sheet}
use Rattle.sheet.specs.Layout.{form_of, total_length_of, step_count_of, directory_offset_of, kind_at, inverted_at, offset_at, length_at, directory_end, body_at, step_at, record_of, blank_sheet}

-- ---- the sheet as a whole

-- fewer than 16 or more than 4,240 bytes, or total length differs
unfoldable pub refusal1 : List ℕ → Bool
refusal1 s = ltb (length s) 16 || ltb 4240 (length s) || not (eqb (total_length_of s) (length s))

-- form not 1
unfoldable pub refusal2 : List ℕ → Bool
refusal2 s = not (eqb (form_of s) 1)

-- step count 0 or over 16
unfoldable pub refusal3 : ℕ → Bool
refusal3 count = eqb count 0 || ltb 16 count

-- where the body before step i ends; before the first step's body the directory ends
unfoldable pub end_before : List ℕ → ℕ → ℕ
end_before s zero = directory_end (step_count_of s)
end_before s (suc i) = offset_at s i + length_at s i

-- inverted 0 or 1
abbrev pub inverted_broken : ℕ → Bool
inverted_broken inverted = ltb 1 inverted

-- a kind, inverted word or body length outside its rule, or an offset not where the body before it
-- ends
unfoldable pub place_broken : List ℕ → ℕ → Bool
place_broken s i =
    eqb (length_of (kind_at s i)) 0
    || inverted_broken (inverted_at s i)
    || not (eqb (length_at s i) (length_of (kind_at s i)))
    || not (eqb (offset_at s i) (end_before s i))

-- at some step, of k from step i on
unfoldable pub some_from : (ℕ → Bool) → ℕ → ℕ → Bool
some_from broken zero i = false
some_from broken (suc k) i = broken i || some_from broken k (i + 1)

-- directory offset not 16, a directory outside the sheet, a place of it out of rule, or bodies not
-- ending at the total length
unfoldable pub refusal4 : List ℕ → Bool
refusal4 s =
    not (eqb (directory_offset_of s) 16)
    || ltb (length s) (directory_end (step_count_of s))
    || some_from (place_broken s) (step_count_of s) 0
    || not (eqb (end_before s (step_count_of s)) (total_length_of s))

-- ---- a step

-- a body field outside its rule
unfoldable pub refusal5 : ℕ → List ℕ → Bool
refusal5 kind body = not (body_in_rule kind body)

-- the same at step i of a sheet
abbrev pub refusal5_at : List ℕ → ℕ → Bool
refusal5_at s i = refusal5 (kind_at s i) (body_at s i)

-- rotated, convention none
abbrev pub refusal6 : Step → Bool
refusal6 step = lacks_convention step

-- dynamic, t_epoch not given
abbrev pub refusal7 : Step → Bool
refusal7 step = lacks_epoch step

-- neither dt nor t_epoch
abbrev pub refusal8 : Step → Bool
refusal8 step = lacks_duration step

-- whether a step before step i is a deformation step, by the steps' kinds
unfoldable pub has_deformation : (ℕ → ℕ) → ℕ → Bool
has_deformation kind zero = false
has_deformation kind (suc i) = has_deformation kind i || eqb (kind i) 5

-- second deformation step: a deformation step after another; the first such is the second one
unfoldable pub refusal11 : (ℕ → ℕ) → ℕ → Bool
refusal11 kind i = eqb (kind i) 5 && has_deformation kind i

-- ---- the order

-- a rule in its place: the refusal that is given where it is broken, and whether it is
pub record Rule : Type 0 where
  pub answer : Refusal
  pub broken : Bool

-- no refusal
abbrev pub accepted : Refusal
accepted = record { number = 0; step = 0 }

-- of the call as a whole: step 0
abbrev pub of_call : ℕ → Refusal
of_call number = record { number = number; step = 0 }

-- of step i, which is answered from 1
abbrev pub of_step : ℕ → ℕ → Refusal
of_step number i = record { number = number; step = i + 1 }

-- the same of any index: past 15, where no sheet has a step, of the call
unfoldable pub of_index : ℕ → ℕ → Refusal
of_index number i = cond (ltb i 16) (of_step number i) (of_call number)

abbrev pub rule : Refusal → Bool → Rule
rule answer broken = record { answer = answer; broken = broken }

-- a step's rules, 5 to 8
unfoldable pub rules_of_step : ℕ → Bool → Step → List Rule
rules_of_step i five step =
    rule (of_step 5 i) five ∷ rule (of_step 6 i) (refusal6 step) ∷ rule (of_step 7 i) (refusal7 step) ∷ rule (of_step 8 i) (refusal8 step) ∷ []

-- step by step 5 to 8, for k steps from step i on
unfoldable pub five_to_eight : (ℕ → Bool) → (ℕ → Step) → ℕ → ℕ → List Rule
five_to_eight five step zero i = []
five_to_eight five step (suc k) i = rules_of_step i (five i) (step i) ++ five_to_eight five step k (i + 1)

-- 11 of each step, for k steps from step i on
unfoldable pub elevens : (ℕ → ℕ) → ℕ → ℕ → List Rule
elevens kind zero i = []
elevens kind (suc k) i = rule (of_step 11 i) (refusal11 kind i) ∷ elevens kind k (i + 1)

-- the reader's order: 1, 2, 3, 4; then step by step 5 to 8; then 11
unfoldable pub reader_order : List ℕ → List Rule
reader_order s =
    rule (of_call 1) (refusal1 s)
    ∷ rule (of_call 2) (refusal2 s)
    ∷ rule (of_call 3) (refusal3 (step_count_of s))
    ∷ rule (of_call 4) (refusal4 s)
    ∷ (five_to_eight (refusal5_at s) (step_at s) (step_count_of s) 0
    ++ elevens (kind_at s) (step_count_of s) 0)

-- ---- the answers

-- the first rule that is broken
unfoldable pub first_broken : List Rule → Refusal
first_broken [] = accepted
first_broken (r ∷ rules) = cond r.broken r.answer (first_broken rules)

-- the reader's refusal
unfoldable pub refusal_of : List ℕ → Refusal
refusal_of s = first_broken (reader_order s)

-- what a function answers: its value, or the refusal where that has a number other than 0
unfoldable pub unless : {A : Type 0} → Refusal → A → Result A Refusal
unless r x = cond (eqb r.number 0) (Ok x) (Err r)

-- the record, or the refusal with a blank sheet
pub record Reading : Type 0 where
  pub refusal : Refusal
  pub sheet : Sheet

unfoldable pub reading_of : List ℕ → Reading
reading_of s = record { refusal = refusal_of s; sheet = cond (eqb (refusal_of s).number 0) (record_of s) blank_sheet }
