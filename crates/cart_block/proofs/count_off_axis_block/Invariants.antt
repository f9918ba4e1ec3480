-- Invariant: n is how many of the first i tuples have no NaN and a distance p from the axis that is
-- not below the cutoff (`count_to`, `counts_of`); n is at most i, and i at most 16, so n does not
-- overflow. A turn asks `counts_at` about tuple i and adds 1 or 0 (`one_counted`). At i = 16 n is
-- the count of the block (`all_counted`). Assumes nothing.
use Prim.Native.Nat.{ℕ}
use Rattle.blocks.specs.Each.{at}
use Rattle.cart_block.specs.Blocks.{counts_of}
use Rattle.blocks.proofs.Counts.{CountedBefore}
use Rattle.tuple.specs.Columns.{row_of}
use Rattle.cart_block.proofs.count_off_axis_block.Given as goal

abbrev pub invariant-loop-i : goal.invariant-loop-i
invariant-loop-i l = CountedBefore l.i (λ (j : ℕ). counts_of l.k (at l.p j) (row_of l.x l.y l.z l.t j)) l.n
