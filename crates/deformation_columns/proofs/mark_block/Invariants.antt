-- Invariant: the first j numbers of m are the marks of the fixes from index k on (`WholeUpTo`,
-- `mark_at`). A turn writes the mark of fix k + j, which `mark_at` reads; k is below 2^62, so k + j
-- does not overflow. At j = 16 the whole block is filled. Assumes nothing.
use Prim.Native.Nat.{ℕ, ◌+◌}
use Rattle.blocks.specs.Each.{WholeUpTo}
use Rattle.turns.specs.Turns.{mark_at}
use Rattle.deformation_columns.proofs.mark_block.Given as goal

abbrev pub invariant-loop-j : goal.invariant-loop-j
invariant-loop-j l = WholeUpTo l.j l.m (λ (u : ℕ). mark_at l.marks (l.k + u))
