-- By `fix-passed`, from what the calls ensure. Assumes nothing.
use Rattle.columns.specs.Columns.{flat_of}
use Rattle.column_blocks.proofs.Blocks.{block_room}
use Rattle.fix_columns.proofs.Rows.{fix-passed}
use Rattle.fix_columns.proofs.sixteen.Goals as goal

pub returns : goal.returns
returns g c =
    let a = c.args in
    let p = c.requires in
    let r = c.load_block.ensures in
    fix-passed (g.S.FixStep.shifted a.step) (g.S.FixStep.met a.step) a.i (flat_of a.x.now a.y.now a.z.now a.t.now) (block_room _ _ _ _ p.0 a.i p.1)
    r.0 r.1 r.2 r.3 c.sixteen-counts.ensures c.store_block.ensures
