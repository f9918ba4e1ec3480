-- Invariant: the first i numbers of r are the angles of the first i points (`UpTo`, `atan2_of`). A
-- turn writes the angle that `atan2` gives for point i (`one_more`). At i = 16 the whole block is
-- filled (`all_filled`). Assumes nothing.
use Prim.Native.Nat.{ℕ}
use Rattle.blocks.specs.Each.{at, UpTo}
use Rattle.arctan.specs.Arctan.{atan2_of}
use Rattle.arctan_block.proofs.any_block.Given as goal

abbrev pub invariant-loop-i : goal.invariant-loop-i
invariant-loop-i l = UpTo l.i l.r (λ (j : ℕ). atan2_of (at l.y j) (at l.x j))
