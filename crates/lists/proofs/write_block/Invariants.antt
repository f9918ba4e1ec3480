-- Where fewer than sixteen fixes stand from `at` on, nothing is written, as `put_block` has it
-- (`put-no-rows`). Otherwise the invariant is that the list is the one at the start with the first
-- i fixes of the columns put into it (`put_rows`), and as long as that. A turn's four writes put
-- one fix (`four-set`), which is one more of the columns' (`row_put`). At i = 16 all are put
-- (`put-rows`). Assumes nothing.
use Prim.Native.Nat.{◌≤◌}
use mathlib.Core.Path.{◌≡◌}
use lib.ListN.{length}
use Rattle.tuple.specs.Columns.{row_of}
use Rattle.lists.specs.Sixteen.{put_rows}
use Rattle.lists.proofs.write_block.Given as goal

abbrev pub invariant-loop-i : goal.invariant-loop-i
invariant-loop-i l = (l.list ≡ put_rows l.initial.list l.at (row_of l.x l.y l.z l.t) l.i) × (length l.list ≡ length l.initial.list) × (l.i ≤ 16)
