use borrow.Author.Rules.{rules}
use mathlib.Core.Path.{◌∙◌}
use Rattle.blocks.proofs.Over.{none_over, still, one_more_over, all_over}
use Rattle.deformation_block.proofs.keep_block.Goals as goal

pub loop-i-init : goal.loop-i-init
loop-i-init c = none_over (search rules)

pub loop-i-preserved : goal.loop-i-preserved
loop-i-preserved c =
    let o = c.loop-i.invariant in
    one_more_over (search rules) (c.kept.ensures ∙ rw (still o)) o

pub returns : goal.returns
returns c = all_over (search rules) c.loop-i.invariant
