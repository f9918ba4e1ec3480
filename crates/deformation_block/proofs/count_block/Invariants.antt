-- Invariant: n is how many of the first i marks are 1 (`CountedBefore`), n is at most i, and i at
-- most 16, so n does not overflow. A turn counts mark i (`one_counted`). At i = 16 n is the count
-- of the block (`all_counted`). Assumes nothing.
use Prim.Native.Nat.{ℕ}
use lib.Dec.{eqb}
use Rattle.blocks.specs.Each.{whole_at}
use Rattle.blocks.proofs.Counts.{CountedBefore}
use Rattle.deformation_block.proofs.count_block.Given as goal

abbrev pub invariant-loop-i : goal.invariant-loop-i
invariant-loop-i l = CountedBefore l.i (λ (j : ℕ). eqb (whole_at l.marks j) 1) l.n
