use mathlib.Core.Path.{ap}
use Rattle.blocks.proofs.Laws.{none_filled, one_more, all_filled}
use Rattle.geocart.specs.declared.Legs.{Legs}
use borrow.Author.Rules.{rules}
use Rattle.geocart_block.proofs.legs_block.Goals as goal

pub loop-i-init : goal.loop-i-init
loop-i-init c = (none_filled (search rules), none_filled (search rules))

pub loop-i-preserved : goal.loop-i-preserved
loop-i-preserved c =
    let l = c.loop-i in
    (one_more (search rules) (ap (λ (m : Legs). m.num) c.legs_at-m.ensures) l.invariant.0, one_more (search rules) (ap (λ (m : Legs). m.denom) c.legs_at-m.ensures) l.invariant.1)

pub returns : goal.returns
returns c = (all_filled (search rules) c.loop-i.invariant.0, all_filled (search rules) c.loop-i.invariant.1)
