use mathlib.Core.Path.{ap}
use Rattle.blocks.proofs.Laws.{none_filled, one_more, all_filled}
use Rattle.geocart.specs.declared.Point.{Point}
use borrow.Author.Rules.{rules}
use Rattle.geocart_block.proofs.point_block.Goals as goal

pub loop-i-init : goal.loop-i-init
loop-i-init c = (none_filled (search rules), none_filled (search rules), none_filled (search rules))

pub loop-i-preserved : goal.loop-i-preserved
loop-i-preserved c =
    let l = c.loop-i in
    (one_more (search rules) (ap (λ (v : Point). v.x) c.point_at-v.ensures) l.invariant.0, one_more (search rules) (ap (λ (v : Point). v.y) c.point_at-v.ensures) l.invariant.1, one_more (search rules) (ap (λ (v : Point). v.z) c.point_at-v.ensures) l.invariant.2)

pub returns : goal.returns
returns c = (all_filled (search rules) c.loop-i.invariant.0, all_filled (search rules) c.loop-i.invariant.1, all_filled (search rules) c.loop-i.invariant.2)
