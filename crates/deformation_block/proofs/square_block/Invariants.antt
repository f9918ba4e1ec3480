-- Invariant: the first i numbers of q are the squares of the lengths of the first i corrections
-- (`UpTo`, `dot_of`, `correction_at`). A turn writes the product of correction i with itself
-- (`dot`, `one_more`). At i = 16 the whole block is filled (`all_filled`). Assumes nothing.
use Prim.Native.Nat.{ℕ}
use Rattle.blocks.specs.Each.{UpTo}
use Rattle.tuple.specs.Sums.{dot_of}
use Rattle.deformation_block.specs.Places.{correction_at}
use Rattle.deformation_block.proofs.square_block.Given as goal

abbrev pub invariant-loop-i : goal.invariant-loop-i
invariant-loop-i l = UpTo l.i l.q (λ (j : ℕ). dot_of (correction_at l.dx l.dy l.dz j) (correction_at l.dx l.dy l.dz j))
