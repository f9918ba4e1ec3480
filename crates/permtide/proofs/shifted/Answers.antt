use borrow.Author.Rules.{rules}
use Rattle.blocks.proofs.Laws.{none_filled, one_more, all_filled}
use Rattle.permtide.proofs.shifted.Goals.{then-inverse, else-inverse}
use Rattle.permtide.proofs.shifted.Goals as goal

pub loop-i-init : goal.loop-i-init
loop-i-init c = none_filled (search rules)

pub loop-i-preserved : goal.loop-i-preserved
loop-i-preserved c =
    elim c.if-inverse.branch [
      | then-inverse w ↦ one_more (search rules) (rw (w.if-inverse.true, w.oz-is, c.height-h.ensures)) c.loop-i.invariant
      | else-inverse w ↦ one_more (search rules) (rw (w.if-inverse.false, w.oz-is, c.height-h.ensures)) c.loop-i.invariant
    ]

pub returns : goal.returns
returns c = all_filled (search rules) c.loop-i.invariant
