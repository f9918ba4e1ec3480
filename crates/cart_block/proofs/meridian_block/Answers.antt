use mathlib.Core.Path.{ap}
use Rattle.blocks.proofs.Laws.{none_filled, one_more, all_filled}
use Rattle.cart.specs.declared.Legs.{Legs}
use borrow.Author.Rules.{rules}
use Rattle.cart_block.proofs.meridian_block.Goals as goal

pub loop-i-init : goal.loop-i-init
loop-i-init c = (none_filled (search rules), none_filled (search rules))

pub loop-i-preserved : goal.loop-i-preserved
loop-i-preserved c =
    let l = c.loop-i in
    (one_more (search rules) (ap (λ (m : Legs). m.s1) c.meridian-m.ensures) l.invariant.0, one_more (search rules) (ap (λ (m : Legs). m.cc) c.meridian-m.ensures) l.invariant.1)

pub returns : goal.returns
returns c = (all_filled (search rules) c.loop-i.invariant.0, all_filled (search rules) c.loop-i.invariant.1)
