-- Steps over a part of a list, each going on from where it stands. A list cut into parts, each of
-- which passes through all steps before the next part begins, is the whole list step after step
-- (proofs/Windows.antt).
use Rattle.std.specs.Prelude.{ℕ, Bool, true, false, List, [], ◌∷◌, Float}
use Rattle.lists.specs.Run.{ran_of, state_after_of}
use Rattle.tally.specs.Tallies.{plus_of}
use Rattle.plans.specs.Passes.{Pass, tally_of}
use Rattle.plans.specs.declared.Standing.{Standing}

-- where a step stands after a part whose first fix has index k: its state, and its tally so far
abbrev pub moved_on : Pass → ℕ → Standing → List Float → Standing
moved_on p k standing l =
    record { state = state_after_of p.turns k standing.state l; tally = plus_of standing.tally (tally_of p k standing.state l) }

-- a part of a list after some steps, and where each then stands
pub record Gone : Type 0 where
  pub list : List Float
  pub standings : List Standing

-- The steps are given in the sheet's order, and standings that no step has stay as they are. Forward
-- the first step runs first, inverse the last.
unfoldable pub gone_of : Bool → ℕ → List Pass → List Standing → List Float → Gone
gone_of inverse k [] standings l = record { list = l; standings = standings }
gone_of inverse k (p ∷ ps) [] l = record { list = l; standings = [] }
gone_of false k (p ∷ ps) (standing ∷ standings) l =
    let later = gone_of false k ps standings (ran_of p.turns k standing.state l) in
    record { list = later.list; standings = moved_on p k standing l ∷ later.standings }
gone_of true k (p ∷ ps) (standing ∷ standings) l =
    let later = gone_of true k ps standings l in
    record { list = ran_of p.turns k standing.state later.list; standings = moved_on p k standing later.list ∷ later.standings }
