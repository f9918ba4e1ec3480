use borrow.Author.Rules.{rules}
use Rattle.blocks.proofs.Laws.{none_filled, one_more, all_filled}
use Rattle.ellipsoid.proofs.w_block.Goals as goal

pub loop-i-init : goal.loop-i-init
loop-i-init c = none_filled (search rules)

pub loop-i-preserved : goal.loop-i-preserved
loop-i-preserved c = one_more (search rules) c.w.ensures c.loop-i.invariant

pub returns : goal.returns
returns c = all_filled (search rules) c.loop-i.invariant
