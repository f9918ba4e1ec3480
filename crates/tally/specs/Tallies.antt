-- A step's two numbers: none, the sum over two parts of a list, and one of the numbers of each step.
use Rattle.std.specs.Prelude.{ℕ, ◌+◌, List, [], ◌∷◌}
use Rattle.tally.specs.declared.Tally.{Tally}

abbrev pub no_tally : Tally
no_tally = record { count = 0; met = 0 }

-- over two parts of a list
abbrev pub plus_of : Tally → Tally → Tally
plus_of a b = record { count = a.count + b.count; met = a.met + b.met }

-- one number of each
unfoldable pub each_of : (Tally → ℕ) → List Tally → List ℕ
each_of number [] = []
each_of number (a ∷ tallies) = number a ∷ each_of number tallies

abbrev pub counts_of : List Tally → List ℕ
counts_of tallies = each_of (λ (a : Tally). a.count) tallies

abbrev pub mets_of : List Tally → List ℕ
mets_of tallies = each_of (λ (a : Tally). a.met) tallies
