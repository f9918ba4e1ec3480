-- By `told` and `legs_are`, from what the calls ensure. Assumes nothing.
use mathlib.Core.Path.{ap}
use Rattle.blocks.proofs.Laws.{told}
use Rattle.geocart.specs.declared.Legs.{Legs}
use Rattle.geocart_block.proofs.Parts.{legs_are}
use Rattle.geocart_block.proofs.bowring_block.Goals as goal

pub returns : goal.returns
returns c =
    let tangent = c.tangent_block.ensures in
    let root = c.sqrt_block.ensures in
    let legs = c.legs_block.ensures in (
      told (λ j k. ap (λ (m : Legs). m.num) (legs_are _ _ _ (tangent.0.held j k) (tangent.1.held j k) (root.held j k))) legs.0,
      told (λ j k. ap (λ (m : Legs). m.denom) (legs_are _ _ _ (tangent.0.held j k) (tangent.1.held j k) (root.held j k))) legs.1,
    )
