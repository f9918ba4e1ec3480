-- Invariant (`SizedUpTo`): the first i numbers of the four columns are what `sized` gives for the
-- first i points, n is at most 16384·i, and if n is below 256 the tables serve each of these points
-- (`Usual`). A turn adds point i (`one_more_sized`), whose share of n is at most 16384, so n does
-- not overflow. As i is never above 16, the loop ends at 16 with the whole block sized
-- (`all_sized`). Assumes nothing.
use Prim.Native.Nat.{◌≤◌}
use Rattle.arctan_block.specs.Block.{SizedUpTo}
use Rattle.arctan_block.proofs.sizes.Given as goal

abbrev pub invariant-loop-i : goal.invariant-loop-i
invariant-loop-i l = SizedUpTo l.i l.y l.x l.larger l.smaller l.quarters l.octants l.n × (l.i ≤ 16)
