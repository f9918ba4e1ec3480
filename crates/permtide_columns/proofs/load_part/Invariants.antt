-- Invariant: the first j places of the block hold the column's numbers from index i on. Assumes
-- nothing.
use Prim.Native.Nat.{ℕ, ◌+◌}
use Rattle.blocks.specs.Each.{at, UpTo}
use Rattle.permtide_columns.proofs.load_part.Given as goal

abbrev pub invariant-loop-j : goal.invariant-loop-j
invariant-loop-j l = UpTo l.j l.b (λ (u : ℕ). at l.column (l.i + u))
