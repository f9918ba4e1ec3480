-- Sixteen tuples as columns: a block of first coordinates, of second, of third and of fourth.
use Rattle.std.specs.Prelude.{ℕ, List, Float}
use Rattle.blocks.specs.Each.{at}
use Rattle.tuple.specs.declared.Tuple.{Tuple}

-- the tuple at a place of the columns
abbrev pub row_of : List Float → List Float → List Float → List Float → ℕ → Tuple
row_of x y z t j = record { x = at x j; y = at y j; z = at z j; t = at t j }
