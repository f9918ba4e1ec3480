use borrow.Author.Rules.{rules}
use Rattle.blocks.proofs.Counts.{none_counted, one_counted, all_counted}
use Rattle.deformation_columns.proofs.met_block.Goals as goal

pub loop-i-init : goal.loop-i-init
loop-i-init c = none_counted

pub loop-i-preserved : goal.loop-i-preserved
loop-i-preserved c = one_counted (search rules) (rw c.place_out.ensures at c.one_if-n.ensures.0) c.loop-i.invariant

pub returns : goal.returns
returns c = all_counted (search rules) c.loop-i.invariant
