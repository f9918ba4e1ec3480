use borrow.Author.Rules.{rules}
use Rattle.blocks.proofs.Over.{none_over, still, one_more_over, all_over}
use Rattle.molodensky_block.proofs.moved.Goals.{then-inverse, else-inverse}
use Rattle.molodensky_block.proofs.moved.Goals as goal

pub loop-i-init : goal.loop-i-init
loop-i-init c = none_over (search rules)

pub loop-i-preserved : goal.loop-i-preserved
loop-i-preserved c =
    let u = c.loop-i.invariant in
    elim c.if-inverse.branch [
      | then-inverse w ↦ one_more_over (search rules) (rw (w.if-inverse.true, w.d-is, still u)) u
      | else-inverse w ↦ one_more_over (search rules) (rw (w.if-inverse.false, w.d-is, still u)) u
    ]

pub returns : goal.returns
returns c = all_over (search rules) c.loop-i.invariant
