-- Invariant: where bt holds the times that stand in the column, the first j rows of the blocks
-- stand in the columns. A turn's three stores put one more (`block-point`), and at j = 16 all are
-- put (`put-rows`). Assumes nothing.
use Prim.Native.Nat.{ℕ, ◌*◌, ◌≤◌}
use mathlib.Core.Path.{◌≡◌}
use lib.ListN.{length}
use Rattle.blocks.specs.Each.{Each}
use Rattle.tuple.specs.Columns.{row_of}
use Rattle.lists.specs.Sixteen.{row_at, put_rows}
use Rattle.columns.specs.Columns.{Level, flat_of}
use Rattle.column_blocks.proofs.points_there.Given as goal

abbrev pub invariant-loop-j : goal.invariant-loop-j
invariant-loop-j l =
    Level l.x l.y l.z l.t × (length l.x ≡ length l.initial.x) × (l.j ≤ 16)
    × (Each l.bt (λ (k : ℕ). (row_at (flat_of l.initial.x l.initial.y l.initial.z l.t) (4 * l.i) k).t) → flat_of l.x l.y l.z l.t ≡ put_rows (flat_of l.initial.x l.initial.y l.initial.z l.t) (4 * l.i) (row_of l.bx l.by l.bz l.bt) l.j)
