-- The row read is the flat list's tuple, its time stays (`time_stays`), and a tuple put where it
-- was read is one row passed (`passed-row`). Assumes nothing.
use Prim.Native.Nat.{◌*◌}
use mathlib.Core.Path.{ap, ◌∙◌}
use Rattle.tuple.specs.declared.Shifted.{Shifted}
use Rattle.lists.specs.Flat.{put_at}
use Rattle.columns.specs.Columns.{flat_of}
use Rattle.columns.proofs.Laws.{room, row-time, timed}
use Rattle.columns.proofs.Passed.{passed-row}
use Rattle.point_columns.proofs.row.Goals as goal

pub returns : goal.returns
returns g c =
    let a = c.args in
    let e = rw c.read_row.ensures at c.one-r.ensures in
    let time =
    ap (λ (s : Shifted). s.tuple.t) e
    ∙ g.met.S.PointStep.time_stays a.step _
    ∙ row-time _ _ _ _ c.requires.0 a.i c.requires.1 in
    rw c.one_if.ensures.0
    (passed-row a.i (room _ _ _ _ c.requires.0 a.i c.requires.1) (ap (λ (s : Shifted). s.tuple) e) (ap (λ (s : Shifted). s.counted) e)
    (c.write_point.ensures ∙ ap (put_at (flat_of a.x.now a.y.now a.z.now a.t.now) (4 * a.i)) (timed time)))
