-- By `told` and `point-is`, from what the calls ensure. Assumes nothing.
use mathlib.Core.Path.{ap}
use Rattle.blocks.proofs.Laws.{told}
use Rattle.geocart.specs.declared.Point.{Point}
use Rattle.geocart_block.proofs.Parts.{point-is}
use Rattle.geocart_block.proofs.cartesian_block.Goals as goal

pub returns : goal.returns
returns c =
    let phi = c.sin_cos_block.ensures in
    let lam = c.sin_cos_block-2.ensures in
    let w = c.w_block.ensures in
    let root = c.sqrt_block.ensures in
    let point = c.point_block.ensures in (
      told (λ j k. ap (λ (q : Point). q.x) (point-is _ _ (root.held j k) (w.held j k) (phi.0.held j k) (phi.1.held j k) (lam.0.held j k) (lam.1.held j k))) point.0,
      told (λ j k. ap (λ (q : Point). q.y) (point-is _ _ (root.held j k) (w.held j k) (phi.0.held j k) (phi.1.held j k) (lam.0.held j k) (lam.1.held j k))) point.1,
      told (λ j k. ap (λ (q : Point). q.z) (point-is _ _ (root.held j k) (w.held j k) (phi.0.held j k) (phi.1.held j k) (lam.0.held j k) (lam.1.held j k))) point.2,
    )
