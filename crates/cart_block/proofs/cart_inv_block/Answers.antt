-- By `told`, `count_told`, `longitude-is` and `latitude-is`, from what the calls ensure.
-- Assumes nothing.
use mathlib.Core.Path.{◌∙◌}
use Rattle.blocks.proofs.Laws.{told}
use Rattle.blocks.proofs.Counts.{count_told}
use Rattle.cart_block.proofs.Parts.{longitude-is, latitude-is, height-is, counted-inverse}
use Rattle.cart_block.proofs.cart_inv_block.Goals as goal

pub returns : goal.returns
returns c =
    let lam = c.atan2_block.ensures in
    let length = c.hypot_block.ensures in
    let legs = c.legs_block.ensures in
    let angle = c.atan2_block-2.ensures in
    let x = told (λ j k. longitude-is _ _) lam in
    let y = told (λ j k. latitude-is _ _ (length.held j k) (legs.0.held j k) (legs.1.held j k) (angle.held j k)) c.latitude_block.ensures in
    let z = told (λ j k. height-is _ _ (length.held j k) (legs.0.held j k) (legs.1.held j k)) c.height_block.ensures in (
      x,
      y,
      z,
      c.count_off_axis_block.ensures ∙ count_told 16 _ _ (λ j k. counted-inverse _ _ (length.held j k) (x.held j k) (y.held j k) (z.held j k)),
    )
