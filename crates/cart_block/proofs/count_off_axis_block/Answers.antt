use mathlib.Core.Path.{ap, ◌∙◌}
use mathlib.Core.Bool.{Bool, cond}
use Rattle.blocks.proofs.Counts.{none_counted, one_counted, all_counted}
use borrow.Author.Rules.{rules}
use Rattle.cart_block.proofs.count_off_axis_block.Goals as goal

pub loop-i-init : goal.loop-i-init
loop-i-init c = none_counted

pub loop-i-preserved : goal.loop-i-preserved
loop-i-preserved c = one_counted (search rules) (c.one_if-n.ensures.0 ∙ ap (λ (b : Bool). cond b 1 0) c.counts_at.ensures) c.loop-i.invariant

pub returns : goal.returns
returns c = all_counted (search rules) c.loop-i.invariant
