-- The chart profile of document 02's A14 ("Helmert and cart only, no exact flag, own-epoch or not
-- dynamic"), and the order in which a sheet is judged where a profile is asked for. `refusal25`
-- says when a step offends.
use Rattle.std.specs.Prelude.{ℕ, zero, suc, ◌+◌, List, [], ◌∷◌, ◌++◌, Bool, true, false, not, cond, ◌&&◌, ◌||◌, eqb}
use Rattle.helmert.specs.declared.Helmert.{Helmert as HelmertRecord}
use Rattle.helmert.specs.Record.{exact_of, own_epoch_of}
use Rattle.helmert.specs.Units.{parameters_of}
use Rattle.helmert.specs.Rules.{dynamic_of}
use Rattle.bodies.specs.declared.Step.{Step}
use Rattle.bodies.specs.declared.Step.TheVariants.{Cart, Permtide, Deformation, Molodensky, Badekas, Helmert}
use Rattle.sheet.specs.declared.Refusal.{Refusal}
use Rattle.sheet.specs.Layout.{step_count_of, kind_at, step_at}
use Rattle.sheet.specs.Rules.{Rule, rule, of_call, of_step, refusal1, refusal2, refusal3, refusal4, refusal5_at, five_to_eight, elevens, first_broken}

-- ---- the chart profile

-- A Helmert step offends by its exact flag, and where it is dynamic without the own-epoch flag.
-- The flag is asked, not the mode: a dynamic step that t_obs fixes offends without it.
unfoldable pub helmert_offends : HelmertRecord → Bool
helmert_offends h = exact_of h || (dynamic_of (parameters_of h) && not (own_epoch_of h))

-- Helmert and cart only
unfoldable pub refusal25 : Step → Bool
refusal25 (Helmert h) = helmert_offends h
refusal25 (Cart r) = false
refusal25 (Molodensky r) = true
refusal25 (Permtide r) = true
refusal25 (Deformation r) = true
refusal25 (Badekas r) = true

-- ---- the order

-- 25 of each step, for k steps from step i on
unfoldable pub twenty_fives : (ℕ → Step) → ℕ → ℕ → List Rule
twenty_fives step zero i = []
twenty_fives step (suc k) i = rule (of_step 25 i) (refusal25 (step i)) ∷ twenty_fives step k (i + 1)

-- What a profile asks, by its number: 0 asks nothing, 1 is the chart profile. Nobody knows another
-- one, so no sheet passes it, and no step is at fault.
unfoldable pub profile_rules : ℕ → List ℕ → List Rule
profile_rules profile s =
    cond (eqb profile 0) []
    (cond (eqb profile 1) (twenty_fives (step_at s) (step_count_of s) 0) (rule (of_call 25) true ∷ []))

-- the reader's 1 to 8, as `reader_order` has them
unfoldable pub up_to_eight : List ℕ → List Rule
up_to_eight s =
    rule (of_call 1) (refusal1 s)
    ∷ rule (of_call 2) (refusal2 s)
    ∷ rule (of_call 3) (refusal3 (step_count_of s))
    ∷ rule (of_call 4) (refusal4 s)
    ∷ five_to_eight (refusal5_at s) (step_at s) (step_count_of s) 0

-- 25 comes after 8 and before 11
unfoldable pub profile_order : ℕ → List ℕ → List Rule
profile_order profile s = up_to_eight s ++ (profile_rules profile s ++ elevens (kind_at s) (step_count_of s) 0)

-- the refusal of a sheet under a profile
unfoldable pub profile_refusal_of : ℕ → List ℕ → Refusal
profile_refusal_of profile s = first_broken (profile_order profile s)
