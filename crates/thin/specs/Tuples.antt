-- A step over a list of tuple records, for any step: tuple after tuple from the front, a state
-- handed on from each to the next. `Turns` is that of the flat lists, so that a step is said once
-- for both; proofs/Flat.antt has the theorem that both say the same.
use Rattle.std.specs.Prelude.{ℕ, suc, ◌+◌, Bool, cond, List, [], ◌∷◌, ◌++◌, Float}
use Rattle.tuple.specs.declared.Tuple.{Tuple}
use Rattle.lists.specs.Flat.{numbers_of}
use Rattle.bodies.specs.declared.Step.{Step}
use Rattle.helmert.specs.declared.State.{State}
use Rattle.lists.specs.Run.{Turns}
use Rattle.tally.specs.declared.Tally.{Tally}
use Rattle.plans.specs.Passes.{Pass, meets}
use Rattle.plans.specs.Lent.{lent_of}
use Rattle.chain.specs.Chain.{turns_of, pass_of, state_of}

-- the list afterwards, the first fix having index k
abbrev pub tuples_of : {S : Type 0} → Turns S → ℕ → S → List Tuple → List Tuple
tuples_of f k state [] = []
tuples_of f k state (u ∷ us) = (f k state u).tuple ∷ tuples_of f (suc k) (f k state u).state us

-- how many tuples counted
abbrev pub counted_among : {S : Type 0} → Turns S → ℕ → S → List Tuple → ℕ
counted_among f k state [] = 0
counted_among f k state (u ∷ us) = cond (f k state u).counted 1 0 + counted_among f (suc k) (f k state u).state us

-- and how many met an angle out of reach
abbrev pub tuples_tally_of : Pass → ℕ → State → List Tuple → Tally
tuples_tally_of p k state us = record { count = counted_among p.turns k state us; met = counted_among (meets p) k state us }

-- ---- a step of a sheet over a list of tuple records: the list afterwards, and the step's tally

abbrev pub step_tuples_of : Bool → List Float → List ℕ → Step → List Tuple → List Tuple
step_tuples_of inverse velocities marks step us = tuples_of (turns_of inverse (lent_of velocities marks []) step) 0 (state_of step) us

abbrev pub step_tuples_tally_of : Bool → List Float → List ℕ → Step → List Tuple → Tally
step_tuples_tally_of inverse velocities marks step us = tuples_tally_of (pass_of inverse (lent_of velocities marks []) step) 0 (state_of step) us

-- ---- the same numbers as a flat list, four a tuple
abbrev pub flat_of : List Tuple → List Float
flat_of [] = []
flat_of (u ∷ us) = numbers_of u ++ flat_of us
