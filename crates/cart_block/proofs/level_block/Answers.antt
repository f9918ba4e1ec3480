use Rattle.blocks.proofs.Laws.{none_filled, one_more, all_filled}
use borrow.Author.Rules.{rules}
use Rattle.cart_block.proofs.level_block.Goals as goal

pub loop-i-init : goal.loop-i-init
loop-i-init c = none_filled (search rules)

pub loop-i-preserved : goal.loop-i-preserved
loop-i-preserved c = one_more (search rules) (rw (c.level.ensures, c.height_with-off.ensures)) c.loop-i.invariant

pub returns : goal.returns
returns c = all_filled (search rules) c.loop-i.invariant
