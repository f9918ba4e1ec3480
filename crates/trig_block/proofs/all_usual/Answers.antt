use borrow.Author.Rules.{rules}
use Rattle.blocks.proofs.All.{asked, none_asked, one_asked, all_asked}
use Rattle.trig_block.proofs.all_usual.Goals as goal

pub loop-i-init : goal.loop-i-init
loop-i-init c = none_asked

pub loop-i-preserved : goal.loop-i-preserved
loop-i-preserved c = one_asked (search rules) (asked c.loop-i.all c.usual-all.result) c.usual-all.ensures c.loop-i.invariant

pub returns : goal.returns
returns c = all_asked (search rules) c.loop-i.invariant
