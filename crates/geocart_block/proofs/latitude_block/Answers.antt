use Rattle.blocks.proofs.Laws.{none_filled, one_more, all_filled}
use borrow.Author.Rules.{rules}
use Rattle.geocart_block.proofs.latitude_block.Goals as goal

pub loop-i-init : goal.loop-i-init
loop-i-init c = none_filled (search rules)

pub loop-i-preserved : goal.loop-i-preserved
loop-i-preserved c =
    let l = c.loop-i in
    one_more (search rules) c.latitude.ensures l.invariant

pub returns : goal.returns
returns c = all_filled (search rules) c.loop-i.invariant
