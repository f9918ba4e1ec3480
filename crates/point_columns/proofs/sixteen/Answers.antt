-- What the block form makes of the sixteen rows that were loaded is what the turns make of them
-- (`plain-sixteen`, `time_stays`), so these rows have passed (`passed-sixteen`). Assumes nothing.
use Prim.Native.Nat.{◌*◌}
use mathlib.Core.Path.{refl}
use Rattle.columns.specs.Columns.{flat_of}
use Rattle.columns.proofs.Passed.{passed-sixteen}
use Rattle.column_blocks.proofs.Blocks.{block_room}
use Rattle.turns.proofs.Columns.{plain-sixteen}
use Rattle.point_columns.proofs.sixteen.Goals as goal

pub returns : goal.returns
returns g c =
    let a = c.args in
    let l = flat_of a.x.now a.y.now a.z.now a.t.now in
    let r = c.load_block.ensures in
    let s = plain-sixteen l (4 * a.i) r (g.S.PointStep.shifted a.step) (g.met.S.PointStep.time_stays a.step) c.sixteen-n.ensures (c.store_points.ensures r.3) in
    passed-sixteen (λ k v. refl) a.i (block_room _ _ _ _ c.requires.0 a.i c.requires.1) s.0 s.1
