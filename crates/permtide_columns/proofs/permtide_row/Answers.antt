-- The row read is the flat list's tuple; its height put is one row passed (`row-passed`). Assumes
-- nothing.
use mathlib.Core.Path.{refl}
use Rattle.permtide_columns.proofs.Rows.{row-passed}
use Rattle.permtide_columns.proofs.permtide_row.Goals as goal

pub returns : goal.returns
returns c =
    let a = c.args in
    row-passed a.x.now a.y.now a.z.now a.t.now c.requires.0 a.i c.requires.1 a.op a.inverse (rw c.read_row.ensures at c.shifted-v.ensures) refl
