-- Invariant: the first j numbers of u are the spacings of the first j places (`UpTo`). A turn fills
-- one more (`one_more`). Assumes nothing.
use Rattle.grid.specs.Lookup.{spacings_of}
use Rattle.blocks.specs.Each.{at, UpTo}
use Rattle.std.proofs.Common.{ℕ}
use Rattle.grid.proofs.spacings_block.Given as goal

abbrev pub invariant-loop-j : goal.invariant-loop-j
invariant-loop-j l = UpTo l.j l.u (λ (k : ℕ). spacings_of l.a (at l.x k))
