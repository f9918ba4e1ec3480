-- Invariant: the first i numbers of num and denom are Bowring's two legs of the first i points,
-- from T and the root of 1 + T² (`UpTo`, once for each column, `legs_of`). A turn calls `legs_at`
-- once for point i and writes both legs (`one_more`). At i = 16 both columns are filled
-- (`all_filled`). Assumes nothing.
use Prim.Native.Nat.{ℕ}
use Rattle.blocks.specs.Each.{at, UpTo}
use Rattle.geocart.specs.Geocart.{legs_of}
use Rattle.geocart_block.proofs.legs_block.Given as goal

abbrev pub invariant-loop-i : goal.invariant-loop-i
invariant-loop-i l =
    UpTo l.i l.num (λ (j : ℕ). (legs_of l.ellps (at l.p j) (at l.z j) (at l.t j) (at l.root j)).num)
    × UpTo l.i l.denom (λ (j : ℕ). (legs_of l.ellps (at l.p j) (at l.z j) (at l.t j) (at l.root j)).denom)
