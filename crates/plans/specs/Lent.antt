-- What a caller lends beside a list, and deformation by it: velocities and marks, one for each fix,
-- or a velocity grid (document 02, A1). A grid of no bytes is none.
use Rattle.std.specs.Prelude.{ℕ, Bool, cond, List, eqb, length, Float}
use Rattle.tuple.specs.declared.Tuple.{Tuple}
use Rattle.deformation.specs.declared.Motion.{Motion}
use Rattle.helmert.specs.declared.State.{State}
use Rattle.lists.specs.Run.{Turns}
use Rattle.turns.specs.Turns.{moved_turns}
use Rattle.reach.specs.Met.{Met, meeting_of, moved_met, deformation_met}
use Rattle.deformation_grid.specs.Gridded.{found_for, gridded_turns}
use Rattle.plans.specs.declared.Loan.{Loan}

pub record Lent : Type 0 where
  pub velocities : List Float
  pub marks : List ℕ
  pub grid : List ℕ

abbrev pub lent_of : List Float → List ℕ → List ℕ → Lent
lent_of velocities marks grid = record { velocities = velocities; marks = marks; grid = grid }

-- what the code's loan lends
abbrev pub lent_in : Loan → Lent
lent_in loan = lent_of loan.velocities.now loan.marks.now loan.grid.now

-- no grid is lent
abbrev pub gridless : Lent → Bool
gridless lent = eqb (length lent.grid) 0

-- a fix is moved by the velocity and mark at its index, or by what the grid gives at its place
abbrev pub lent_turns : Motion → Bool → Lent → Turns State
lent_turns op inverse lent =
    cond (gridless lent) (moved_turns op inverse lent.velocities lent.marks) (gridded_turns op inverse lent.grid)

-- with a grid a fix meets an angle out of reach where the lookup marks it present and longitude or
-- latitude is out of reach; no fix does (proofs: `gridded_meets_nothing`)
abbrev pub gridded_met : Motion → List ℕ → Tuple → Bool
gridded_met op grid v = moved_met op (found_for op.ellps grid v).mark v

abbrev pub lent_met : Motion → Lent → Met State
lent_met op lent = cond (gridless lent) (deformation_met op lent.marks) (λ k state v. gridded_met op lent.grid v)

-- the turns that count such fixes
abbrev pub lent_met_turns : Motion → Bool → Lent → Turns State
lent_met_turns op inverse lent = meeting_of (lent_met op lent) (lent_turns op inverse lent)
