-- By `moved-made`, from what the calls ensure. Assumes nothing.
use Rattle.deformation_grid_columns.proofs.Sixteen.{moved-made}
use Rattle.deformation_grid_columns.proofs.GriddedFixStep.sixteen.Goals as goal

pub returns : goal.returns
returns c =
    let a = c.args in
    let s = c.place_block.ensures in
    moved-made a.self.g.now a.self.rows a.self.columns a.self.op a.self.inverse a.x.now a.y.now a.z.now a.t.now c.found_block.ensures s.0 s.1 c.moved_block-n.ensures
