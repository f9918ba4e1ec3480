-- The plan of a sheet's step.
use Rattle.std.specs.Prelude.{ℕ, Bool, not, cond, List, eqb}
use Rattle.sheet.specs.Layout.{inverted_at, step_at}
use Rattle.plans.specs.declared.Plan.{Plan}
use Rattle.plans.specs.Plans.{plan_of}

-- the step at index i in the chain's direction, turned round where its inverted word is 1
unfoldable pub plan_at : Bool → List ℕ → ℕ → Plan
plan_at inverse s i = plan_of (cond (eqb (inverted_at s i) 1) (not inverse) inverse) (step_at s i)
