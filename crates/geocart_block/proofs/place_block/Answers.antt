-- By `told`, `longitude-is` and `latitude-is`, from what the calls ensure. Assumes nothing.
use Rattle.blocks.proofs.Laws.{told}
use Rattle.geocart_block.proofs.Parts.{longitude-is, latitude-is}
use Rattle.geocart_block.proofs.place_block.Goals as goal

pub returns : goal.returns
returns c =
    let lam = c.atan2_block.ensures in
    let length = c.hypot_block.ensures in
    let legs = c.bowring_block.ensures in
    let angle = c.atan2_block-2.ensures in (
      record { block = lam.block; held = λ j k. longitude-is _ _ (lam.held j k) },
      told (λ j k. latitude-is _ _ (length.held j k) (legs.0.held j k) (legs.1.held j k) (angle.held j k)) c.latitude_block.ensures,
    )
