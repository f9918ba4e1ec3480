-- Invariant: the first j places of each block hold the rows from the index on. Assumes nothing.
use Prim.Native.Nat.{ℕ, ◌*◌}
use Rattle.blocks.specs.Each.{UpTo}
use Rattle.lists.specs.Sixteen.{row_at}
use Rattle.columns.specs.Columns.{flat_of}
use Rattle.column_blocks.proofs.load_there.Given as goal

abbrev pub invariant-loop-j : goal.invariant-loop-j
invariant-loop-j l =
    UpTo l.j l.bx (λ (k : ℕ). (row_at (flat_of l.x l.y l.z l.t) (4 * l.i) k).x)
    × UpTo l.j l.by (λ (k : ℕ). (row_at (flat_of l.x l.y l.z l.t) (4 * l.i) k).y)
    × UpTo l.j l.bz (λ (k : ℕ). (row_at (flat_of l.x l.y l.z l.t) (4 * l.i) k).z)
    × UpTo l.j l.bt (λ (k : ℕ). (row_at (flat_of l.x l.y l.z l.t) (4 * l.i) k).t)
