-- One case for each way through the tests. Each by `told`, `placed`, `full` and `abridged`, from
-- what the calls ensure. Assumes nothing.
use mathlib.Core.Path.{ap}
use Rattle.blocks.proofs.Laws.{told}
use Rattle.molodensky.specs.declared.Offsets.{Offsets}
use Rattle.molodensky_block.proofs.Block.{placed, full, abridged}
use Rattle.molodensky_block.proofs.shifts.Goals as goal

pub returns-then-op : goal.returns-then-op
returns-then-op c =
    let lon = c.sin_cos_block-then-op.ensures in
    let twice = c.double_sines.ensures in
    let root = c.sqrt_block.ensures in
    let w = c.w_block.ensures in
    let lat = c.sin_cos_block.ensures in (
      told
          (λ j k.
          ap (λ (s : Offsets). s.dlam)
          (abridged _ _ c.if-op.true
          (placed _ _ _ (lon.0.held j k) (lon.1.held j k) (lat.0.held j k) (lat.1.held j k) (w.held j k) (root.held j k)) (twice.held j k)))
          c.abridged_shifts.ensures.0,
      told
          (λ j k.
          ap (λ (s : Offsets). s.dphi)
          (abridged _ _ c.if-op.true
          (placed _ _ _ (lon.0.held j k) (lon.1.held j k) (lat.0.held j k) (lat.1.held j k) (w.held j k) (root.held j k)) (twice.held j k)))
          c.abridged_shifts.ensures.1,
      told
          (λ j k.
          ap (λ (s : Offsets). s.dh)
          (abridged _ _ c.if-op.true
          (placed _ _ _ (lon.0.held j k) (lon.1.held j k) (lat.0.held j k) (lat.1.held j k) (w.held j k) (root.held j k)) (twice.held j k)))
          c.abridged_shifts.ensures.2,
    )

pub returns-else-op : goal.returns-else-op
returns-else-op c =
    let lon = c.sin_cos_block-else-op.ensures in
    let root = c.sqrt_block.ensures in
    let w = c.w_block.ensures in
    let lat = c.sin_cos_block.ensures in (
      told
          (λ j k.
          ap (λ (s : Offsets). s.dlam)
          (full _ _ c.if-op.false
          (placed _ _ _ (lon.0.held j k) (lon.1.held j k) (lat.0.held j k) (lat.1.held j k) (w.held j k) (root.held j k))))
          c.full_shifts.ensures.0,
      told
          (λ j k.
          ap (λ (s : Offsets). s.dphi)
          (full _ _ c.if-op.false
          (placed _ _ _ (lon.0.held j k) (lon.1.held j k) (lat.0.held j k) (lat.1.held j k) (w.held j k) (root.held j k))))
          c.full_shifts.ensures.1,
      told
          (λ j k.
          ap (λ (s : Offsets). s.dh)
          (full _ _ c.if-op.false
          (placed _ _ _ (lon.0.held j k) (lon.1.held j k) (lat.0.held j k) (lat.1.held j k) (w.held j k) (root.held j k))))
          c.full_shifts.ensures.2,
    )
