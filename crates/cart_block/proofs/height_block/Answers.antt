-- By `told` and `height_from`, from what the calls ensure. Assumes nothing.
use Rattle.blocks.proofs.Laws.{told}
use Rattle.cart_block.proofs.Parts.{height_from}
use Rattle.cart_block.proofs.height_block.Goals as goal

pub returns : goal.returns
returns c =
    let reduced = c.scaled.ensures in
    let inner = c.hypot_block.ensures in
    let outer = c.hypot_block-2.ensures in
    told (λ j k. height_from _ _ _ _ _ (reduced.held j k) (inner.held j k) (outer.held j k)) c.level_block.ensures
