-- Invariant: the first j rows of the blocks stand in the columns. A turn's four stores put one more
-- (`block-set`), and at j = 16 all are put (`put-rows`). Assumes nothing.
use Prim.Native.Nat.{◌*◌, ◌≤◌}
use mathlib.Core.Path.{◌≡◌}
use lib.ListN.{length}
use Rattle.tuple.specs.Columns.{row_of}
use Rattle.lists.specs.Sixteen.{put_rows}
use Rattle.columns.specs.Columns.{Level, flat_of}
use Rattle.column_blocks.proofs.store_there.Given as goal

abbrev pub invariant-loop-j : goal.invariant-loop-j
invariant-loop-j l =
    Level l.x l.y l.z l.t × (length l.x ≡ length l.initial.x) × (l.j ≤ 16)
    × (flat_of l.x l.y l.z l.t ≡ put_rows (flat_of l.initial.x l.initial.y l.initial.z l.initial.t) (4 * l.i) (row_of l.bx l.by l.bz l.bt) l.j)
