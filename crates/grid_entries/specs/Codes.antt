-- What a call with a grid leaves its caller in C: the refusal as one word, each step's numbers, and
-- the list.
use Rattle.std.specs.Prelude.{ℕ, List, Float}
use Rattle.codes.specs.Codes.{code_of}
use Rattle.tally.specs.Tallies.{counts_of, mets_of}
use Rattle.chain.specs.Rules.{Outcome}

pub record GridTold : Type 0 where
  pub code : ℕ
  pub counts : List ℕ
  pub mets : List ℕ
  pub list : List Float

abbrev pub grid_told : ℕ → List ℕ → List ℕ → List Float → GridTold
grid_told code counts mets list = record { code = code; counts = counts; mets = mets; list = list }

abbrev pub grid_told_of : Outcome → GridTold
grid_told_of o = grid_told (code_of o.answer.refusal) (counts_of o.answer.tallies) (mets_of o.answer.tallies) o.list
