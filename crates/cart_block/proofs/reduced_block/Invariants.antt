-- Invariant: the first i numbers of s0 are S0 = ra·Z of the first i points, and those of c0 are C0
-- = ar·(ra·p), each product rounded (`UpTo`, once for each column). A turn writes both numbers at i
-- (`one_more`). At i = 16 both columns are filled (`all_filled`). Assumes nothing.
use Prim.Native.Nat.{ℕ}
use Rattle.blocks.specs.Each.{at, UpTo}
use Rattle.cart.specs.Step.{s0_of, c0_of}
use Rattle.cart_block.proofs.reduced_block.Given as goal

abbrev pub invariant-loop-i : goal.invariant-loop-i
invariant-loop-i l =
    UpTo l.i l.s0 (λ (j : ℕ). s0_of l.k (at l.z j))
    × UpTo l.i l.c0 (λ (j : ℕ). c0_of l.k (at l.p j))
