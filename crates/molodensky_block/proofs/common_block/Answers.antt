-- Each by `told` and `moved_by`, from what the calls ensure. Assumes nothing.
use mathlib.Core.Path.{ap}
use Rattle.blocks.proofs.Laws.{told}
use Rattle.tuple.specs.declared.Tuple.{Tuple}
use Rattle.molodensky_block.proofs.Block.{moved_by}
use Rattle.molodensky_block.proofs.common_block.Goals as goal

pub returns : goal.returns
returns c =
    let d = c.shifts.ensures in (
      told (λ j k. rw (d.0.held j k) (ap (λ (v : Tuple). v.x) (moved_by _ _ _ _))) c.moved.ensures,
      told (λ j k. rw (d.1.held j k) (ap (λ (v : Tuple). v.y) (moved_by _ _ _ _))) c.moved-2.ensures,
      told (λ j k. rw (d.2.held j k) (ap (λ (v : Tuple). v.z) (moved_by _ _ _ _))) c.moved-3.ensures,
    )
