-- What the lookup finds where a chain's deformation step is reached, as velocities and marks could
-- be lent for it. The law `grid-run-is-lent-run-of-a-chain` speaks of these; no code makes them.
use Rattle.std.specs.Prelude.{ℕ, Bool, true, false, not, cond, ◌||◌, List, [], ◌∷◌, Float}
use Rattle.deformation.specs.Step.{motion_of}
use Rattle.bodies.specs.declared.Step.{Step}
use Rattle.bodies.specs.declared.Step.TheVariants.{Cart, Permtide, Deformation, Molodensky, Badekas, Helmert}
use Rattle.sheet.specs.declared.Entry.{Entry}
use Rattle.deformation_grid.specs.Found.{velocities_found, marks_found}
use Rattle.plans.specs.Lent.{Lent, lent_of}
use Rattle.chain.specs.Chain.{step_list_of, chain_inverse_of}

-- nothing is lent
abbrev pub nothing_lent : Lent
nothing_lent = lent_of [] [] []

unfoldable pub is_deformation : Step → Bool
is_deformation (Cart r) = false
is_deformation (Permtide r) = false
is_deformation (Deformation r) = true
is_deformation (Molodensky r) = false
is_deformation (Helmert h) = false
is_deformation (Badekas r) = false

-- for a step over a list, where the list reaches it
abbrev pub found_at : List ℕ → Step → List Float → Lent
found_at grid (Cart r) l = nothing_lent
found_at grid (Permtide r) l = nothing_lent
found_at grid (Deformation r) l = lent_of (velocities_found (motion_of r).ellps grid l) (marks_found (motion_of r).ellps grid l) []
found_at grid (Molodensky r) l = nothing_lent
found_at grid (Helmert h) l = nothing_lent
found_at grid (Badekas r) l = nothing_lent

-- one of these steps deforms, and at most one does (rule 11)
unfoldable pub some_deforms : List Entry → Bool
some_deforms [] = false
some_deforms (e ∷ es) = is_deformation e.step || some_deforms es

unfoldable pub at_most_one_deforms : List Entry → Bool
at_most_one_deforms [] = true
at_most_one_deforms (e ∷ es) = cond (is_deformation e.step) (not (some_deforms es)) (at_most_one_deforms es)

-- forward: what the steps before the deformation step have made of the list reaches it
unfoldable pub found_forward : List ℕ → List Entry → List Float → Lent
found_forward grid [] l = nothing_lent
found_forward grid (e ∷ es) l =
    cond (is_deformation e.step) (found_at grid e.step l) (found_forward grid es (step_list_of false nothing_lent e l))

-- inverse: what the steps after it have made
unfoldable pub found_inverse : List ℕ → List Entry → List Float → Lent
found_inverse grid [] l = nothing_lent
found_inverse grid (e ∷ es) l =
    cond (is_deformation e.step) (found_at grid e.step (chain_inverse_of nothing_lent es l).list) (found_inverse grid es l)

abbrev pub found_over : Bool → List ℕ → List Entry → List Float → Lent
found_over inverse grid es l = cond inverse (found_inverse grid es l) (found_forward grid es l)
