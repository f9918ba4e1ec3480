-- Invariant: the first i numbers of h are the heights of the first i points (`UpTo`, `level_of`):
-- from S1, CC and the two hypotenuses, and a pole's within the cutoff of the axis. A turn writes
-- the height that `level` gives for point i (`one_more`). At i = 16 the whole block is filled
-- (`all_filled`). Assumes nothing.
use Prim.Native.Nat.{ℕ}
use Rattle.blocks.specs.Each.{at, UpTo}
use Rattle.cart.specs.Step.{height_with}
use Rattle.cart_block.specs.Blocks.{level_of}
use Rattle.cart_block.proofs.level_block.Given as goal

abbrev pub invariant-loop-i : goal.invariant-loop-i
invariant-loop-i l =
    UpTo l.i l.h (λ (j : ℕ). level_of l.k (at l.p j) (at l.z j) (height_with l.k (at l.p j) (at l.z j) (record { s1 = at l.s1 j; cc = at l.cc j }) (at l.inner j) (at l.outer j)))
