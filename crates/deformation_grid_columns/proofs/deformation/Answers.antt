-- The loop's turns are those by the grid's own axes (`axes_read`). Assumes nothing.
use native.Mathlib.Omega.{arith}
use mathlib.Core.Path.{◌∙◌, ap, fun_ext}
use Rattle.std.proofs.lemmas.Grind.{common_steps}
use Rattle.tuple.specs.declared.Tuple.{Tuple}
use Rattle.tuple.specs.declared.Shifted.{Shifted}
use Rattle.lists.specs.Run.{ran_of, count_of}
use Rattle.helmert.specs.Turns.{no_state}
use Rattle.turns.specs.Turns.{plain_turns}
use Rattle.columns.specs.Columns.{flat_of}
use Rattle.deformation_grid.proofs.Laws.{axes_read}
use Rattle.deformation_grid_columns.proofs.deformation.Goals as goal

pub returns : goal.returns
returns c =
    let a = c.args in
    let e = rw (c.columns.ensures, c.rows.ensures) at c.run.ensures in
    let l = flat_of a.x.now a.y.now a.z.now a.t.now in
    let same = fun_ext (λ (v : Tuple). axes_read a.op a.inverse a.g.now v) in
    let list = ap (λ (f : Tuple → Shifted). ran_of (plain_turns f) 0 no_state l) same in
    let counted = ap (λ (f : Tuple → Shifted). count_of (plain_turns f) 0 no_state l) same in
    (grind (arith, common_steps, e.0) ∙ list, grind (arith, common_steps, e.1) ∙ counted)
