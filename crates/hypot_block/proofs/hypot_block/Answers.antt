-- By either way each length is `hypot`'s. Assumes nothing.
use Rattle.hypot_block.proofs.Blocks.{usual_lengths}
use Rattle.std.proofs.Common.{not, ap}
use Rattle.hypot_block.proofs.hypot_block.Goals as goal

pub returns-else-not-usual_block : goal.returns-else-not-usual_block
returns-else-not-usual_block c = usual_lengths c.usual_block.ensures (ap not c.if-not-usual_block.false)
