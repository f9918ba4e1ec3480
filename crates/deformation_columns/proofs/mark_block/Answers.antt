use borrow.Author.Rules.{rules}
use mathlib.Core.Path.{refl}
use Rattle.blocks.proofs.Laws.{none_filled, one_more, all_filled}
use Rattle.deformation_columns.proofs.mark_block.Goals as goal

pub loop-j-init : goal.loop-j-init
loop-j-init c = none_filled refl

pub loop-j-preserved : goal.loop-j-preserved
loop-j-preserved c = one_more (search rules) c.mark_at.ensures c.loop-j.invariant

pub returns : goal.returns
returns c = all_filled (search rules) c.loop-j.invariant
