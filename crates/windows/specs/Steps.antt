-- Plans in an array, in the sheet's order: what they make of a list, and where each step stands
-- before one.
use Rattle.std.specs.Prelude.{ℕ, zero, suc, ◌-◌, ◌≤◌, Bool, List, [], ◌∷◌, ◌++◌, replicate, get_or, Float}
use Rattle.helmert.specs.Turns.{no_state}
use Rattle.tally.specs.declared.Tally.{Tally}
use Rattle.tally.specs.Tallies.{no_tally}
use Rattle.plans.specs.declared.Plan.{Plan}
use Rattle.plans.specs.declared.Standing.{Standing}
use Rattle.plans.specs.Lent.{Lent}
use Rattle.plans.specs.Passes.{Pass}
use Rattle.plans.specs.Plans.{plan_in, at_most_sixteen, plan_pass_of, plan_start_of}
use Rattle.plans.specs.Windows.{Gone, gone_of}

-- ---- steps

-- what the plan at an index does, tuple by tuple
abbrev pub pass_in : Lent → List Plan → ℕ → Pass
pass_in lent plans i = plan_pass_of lent (plan_in plans i)

-- k steps from index i on
unfoldable pub passes_from : (ℕ → Pass) → ℕ → ℕ → List Pass
passes_from pass zero i = []
passes_from pass (suc k) i = pass i ∷ passes_from pass k (suc i)

-- ---- standings

-- where a step stands before a list, and what stands where no step is
abbrev pub at_start : Plan → Standing
at_start plan = record { state = plan_start_of plan; tally = no_tally }

abbrev pub no_standing : Standing
no_standing = record { state = no_state; tally = no_tally }

unfoldable pub starts_from : (ℕ → Plan) → ℕ → ℕ → List Standing
starts_from plan zero i = []
starts_from plan (suc k) i = at_start (plan i) ∷ starts_from plan k (suc i)

-- sixteen standings
abbrev pub starts_of : (ℕ → Plan) → ℕ → List Standing
starts_of plan n = starts_from plan n 0 ++ replicate (16 - n) no_standing

-- the tally of each
unfoldable pub tallies_of : List Standing → List Tally
tallies_of [] = []
tallies_of (standing ∷ standings) = standing.tally ∷ tallies_of standings

-- neither number over a bound
abbrev pub FewIn : ℕ → Tally → Type 0
FewIn bound tally = (tally.count ≤ bound) × (tally.met ≤ bound)

abbrev pub Few : ℕ → List Standing → Type 0
Few bound standings = (i : ℕ) → FewIn bound (get_or standings i no_standing).tally

-- ---- the first n plans over a list

unfoldable pub gone_over : Bool → Lent → List Plan → ℕ → List Float → Gone
gone_over inverse lent plans n l =
    gone_of inverse 0 (passes_from (pass_in lent plans) (at_most_sixteen n) 0) (starts_of (plan_in plans) (at_most_sixteen n)) l
