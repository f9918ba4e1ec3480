-- By either way each angle is `atan2`'s. Assumes nothing.
use Rattle.arctan_block.proofs.Blocks.{block_angles}
use Rattle.arctan_block.proofs.atan2_block.Goals as goal

pub returns-then-sizes-lt256 : goal.returns-then-sizes-lt256
returns-then-sizes-lt256 c =
    block_angles c.if-sizes-lt256.true c.sizes.ensures c.pairs.ensures c.mend.ensures
