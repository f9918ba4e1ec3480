-- By `sixteen-passed`, from what the calls ensure. Assumes nothing.
use Rattle.permtide_columns.proofs.Rows.{sixteen-passed}
use Rattle.permtide_columns.proofs.permtide_sixteen.Goals as goal

pub returns : goal.returns
returns c =
    let a = c.args in
    sixteen-passed a.x.now a.y.now a.z.now a.t.now c.requires.0 a.i c.requires.1 a.op a.inverse c.load_part.ensures c.load_part-2.ensures c.heights.ensures c.store_part.ensures
