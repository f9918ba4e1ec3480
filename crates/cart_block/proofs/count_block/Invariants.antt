-- Invariant: n is how many of the first i tuples have no NaN (`count_to`, `any_nan_of`), n is at
-- most i, and i at most 16, so n does not overflow. A turn adds 1 or 0 for tuple i (`one_counted`).
-- At i = 16 n is the count of the block (`all_counted`). Assumes nothing.
use Prim.Native.Nat.{ℕ}
use mathlib.Core.Bool.{not}
use Rattle.tuple.specs.Sums.{any_nan_of}
use Rattle.blocks.proofs.Counts.{CountedBefore}
use Rattle.tuple.specs.Columns.{row_of}
use Rattle.cart_block.proofs.count_block.Given as goal

abbrev pub invariant-loop-i : goal.invariant-loop-i
invariant-loop-i l = CountedBefore l.i (λ (j : ℕ). not (any_nan_of (row_of l.x l.y l.z l.t j))) l.n
