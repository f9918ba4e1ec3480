-- By `told` and `legs_are`, from what the calls ensure. Assumes nothing.
use mathlib.Core.Path.{ap}
use Rattle.blocks.proofs.Laws.{told}
use Rattle.cart.specs.declared.Legs.{Legs}
use Rattle.cart_block.proofs.Parts.{legs_are}
use Rattle.cart_block.proofs.legs_block.Goals as goal

pub returns : goal.returns
returns c =
    let reduced = c.reduced_block.ensures in
    let length = c.hypot_block.ensures in
    let legs = c.meridian_block.ensures in (
      told (λ j k. ap (λ (m : Legs). m.s1) (legs_are _ _ _ (reduced.0.held j k) (reduced.1.held j k) (length.held j k))) legs.0,
      told (λ j k. ap (λ (m : Legs). m.cc) (legs_are _ _ _ (reduced.0.held j k) (reduced.1.held j k) (length.held j k))) legs.1,
    )
