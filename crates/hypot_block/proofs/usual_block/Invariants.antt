-- Invariant: the first i elements of r are the usual case's lengths of the first i points, and
-- where `all` is true their sums of squares are ordinary (`UsualUpTo`). A turn writes the next
-- length and clears `all` where the sum is not ordinary, as `usual_length` tells
-- (`one_more_usual`). At i = 16 this is the contract (`all_told`). Assumes nothing.
use Rattle.hypot_block.specs.Block.{UsualUpTo}
use Rattle.hypot_block.proofs.usual_block.Given as goal

abbrev pub invariant-loop-i : goal.invariant-loop-i
invariant-loop-i l = UsualUpTo l.i l.x l.y l.r l.all
