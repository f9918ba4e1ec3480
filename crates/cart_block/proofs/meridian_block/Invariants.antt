-- Invariant: the first i numbers of s1 and of cc are S1 and CC of the first i points, from p, Z and
-- the hypotenuse in a (`UpTo`, once for each column). A turn calls `meridian` once for point i and
-- writes both numbers (`one_more`). At i = 16 both columns are filled (`all_filled`). Assumes
-- nothing.
use Prim.Native.Nat.{ℕ}
use Rattle.blocks.specs.Each.{at, UpTo}
use Rattle.cart.specs.Step.{legs_with}
use Rattle.cart_block.proofs.meridian_block.Given as goal

abbrev pub invariant-loop-i : goal.invariant-loop-i
invariant-loop-i l =
    UpTo l.i l.s1 (λ (j : ℕ). (legs_with l.k (at l.p j) (at l.z j) (at l.a j)).s1)
    × UpTo l.i l.cc (λ (j : ℕ). (legs_with l.k (at l.p j) (at l.z j) (at l.a j)).cc)
