-- The three numbers are those of the tuple that T, S and the matrix make, and the time is the
-- tuple's (`apply_time`). Assumes nothing.
use mathlib.Core.Path.{sym, ap, ◌∙◌}
use lib.Ieee.{Float}
use Rattle.tuple.specs.declared.Tuple.{Tuple}
use Rattle.lists.specs.Flat.{four_of}
use Rattle.helmert.specs.Apply.{apply_of}
use Rattle.helmert_still_columns.proofs.Laws.{apply_time}
use Rattle.helmert_still_columns.proofs.Through.row.Goals as goal

pub returns : goal.returns
returns c =
    let a = c.args in
    let to = a.self in
    let v = four_of a.x.now a.y.now a.z.now a.t in
    let w = apply_of to.inverse to.t to.s to.rotated to.m v in
    ap (λ (q : Tuple). four_of q.x q.y q.z a.t) c.apply-w.ensures
    ∙ ap (λ (time : Float). four_of w.x w.y w.z time) (sym (apply_time to.inverse to.t to.s to.rotated to.m v))
