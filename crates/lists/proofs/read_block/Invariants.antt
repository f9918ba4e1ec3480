-- Where fewer than sixteen fixes stand from `at` on, the columns stay sixteen NaNs, as `row_at` has
-- it (`none_there`). Otherwise the invariant is that the first i elements of each column are the
-- numbers of the first i fixes (`UpTo`). A turn reads the four numbers of one more fix (`row_read`)
-- into the four columns (`one_more`), and at i = 16 each column is filled (`all_filled`). Assumes
-- nothing.
use Prim.Native.Nat.{ℕ}
use Rattle.blocks.specs.Each.{UpTo}
use Rattle.lists.specs.Sixteen.{row_at}
use Rattle.lists.proofs.read_block.Given as goal

abbrev pub invariant-loop-i : goal.invariant-loop-i
invariant-loop-i l =
    UpTo l.i l.x (λ (j : ℕ). (row_at l.list l.at j).x) × UpTo l.i l.y (λ (j : ℕ). (row_at l.list l.at j).y) × UpTo l.i l.z (λ (j : ℕ). (row_at l.list l.at j).z) × UpTo l.i l.t (λ (j : ℕ). (row_at l.list l.at j).t)
