-- Columns of one length stand for four numbers a row (`flat-length`), others for none
-- (`flat-uneven`). Assumes nothing.
use native.Mathlib.Omega.{arith}
use mathlib.Core.Path.{sym, ap, ◌∙◌}
use mathlib.Core.List.{List}
use lib.ListN.{length}
use lib.Ieee.{Float}
use Rattle.columns.proofs.Laws.{level_told, flat-length, flat-uneven}
use Rattle.stretch.proofs.ColumnRowsRows.len.Goals as goal

pub returns-then-level : goal.returns-then-level
returns-then-level c =
    let r = c.args.self.now in
    let long = flat-length r.x.now r.y.now r.z.now r.t.now (level_told _ _ _ _ (sym c.level.ensures ∙ c.if-level.true)) in
    omega (arith, long)

pub returns-else-level : goal.returns-else-level
returns-else-level c =
    let r = c.args.self.now in
    let none = ap (λ (l : List Float). length l) (flat-uneven r.x.now r.y.now r.z.now r.t.now (sym c.level.ensures ∙ c.if-level.false)) in
    omega (arith, none)
