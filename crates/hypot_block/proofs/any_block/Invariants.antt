-- Invariant: r is a block whose first i elements are the lengths of the first i points (`UpTo`,
-- `hypot_of`). A turn writes the next length, which is right by the contract of `hypot`
-- (`one_more`). At i = 16 every element is one (`all_filled`). Assumes nothing.
use Prim.Native.Nat.{ℕ}
use Rattle.blocks.specs.Each.{at, UpTo}
use Rattle.hypot.specs.Hypot.{hypot_of}
use Rattle.hypot_block.proofs.any_block.Given as goal

abbrev pub invariant-loop-i : goal.invariant-loop-i
invariant-loop-i l = UpTo l.i l.r (λ (j : ℕ). hypot_of (at l.x j) (at l.y j))
