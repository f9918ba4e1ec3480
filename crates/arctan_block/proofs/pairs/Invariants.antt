-- Invariant: the first 2h numbers of r are the angles that the rows of the tables give (`UpTo`,
-- `quick_at`). A turn looks up the cells and octants of the points 2h and 2h + 1, takes their
-- angles by `quick` and writes both (`two_more`). At h = 8 the whole block is filled
-- (`all_filled`). Assumes nothing.
use Prim.Native.Nat.{ℕ, ◌*◌}
use Rattle.blocks.specs.Each.{UpTo}
use Rattle.arctan_block.specs.Block.{quick_at}
use Rattle.arctan_block.proofs.pairs.Given as goal

abbrev pub invariant-loop-h : goal.invariant-loop-h
invariant-loop-h l = UpTo (2 * l.h) l.r (λ (j : ℕ). quick_at l.y l.larger l.smaller l.quarters l.octants j)
