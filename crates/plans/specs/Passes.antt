-- A step over a list, as the two numbers that it tells need it: what it makes of each tuple, and
-- which tuples meet an angle out of reach of sine and cosine.
use Rattle.std.specs.Prelude.{ℕ, List, Float}
use Rattle.helmert.specs.declared.State.{State}
use Rattle.lists.specs.Run.{Turns, count_of}
use Rattle.reach.specs.Met.{Met, meeting_of}
use Rattle.tally.specs.declared.Tally.{Tally}

pub record Pass : Type 0 where
  pub turns : Turns State
  pub met : Met State

-- the turns that count, in place of the step's own tuples, those that meet such an angle
abbrev pub meets : Pass → Turns State
meets p = meeting_of p.met p.turns

-- of a part of a list whose first fix has index k: how many tuples the step counts, and how many
-- meet such an angle
abbrev pub tally_of : Pass → ℕ → State → List Float → Tally
tally_of p k state l = record { count = count_of p.turns k state l; met = count_of (meets p) k state l }
