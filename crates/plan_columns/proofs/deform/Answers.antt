-- Where a grid is lent, from what the loop by a grid ensures, and no fix meets an angle out of reach
-- (`by_a_grid`); else from what the loop by velocities and marks ensures (`by_what_is_lent`). Assumes
-- nothing.
use borrow.Author.Tests.{eq-eqb, ne_eqb}
use mathlib.Core.Path.{refl}
use Rattle.columns.specs.Columns.{flat_of}
use Rattle.plans.specs.Lent.{lent_in}
use Rattle.plan_columns.proofs.Blind.{by_what_is_lent, by_a_grid}
use Rattle.plan_columns.proofs.deform.Goals as goal

pub returns-then-lent-ne0 : goal.returns-then-lent-ne0
returns-then-lent-ne0 c =
    let a = c.args in
    let l = flat_of a.x.now a.y.now a.z.now a.t.now in
    by_a_grid (lent_in a.lent) a.first l a.op a.inverse (ne_eqb _ 0 c.if-lent-ne0.true) c.deformation.ensures refl

pub returns : goal.returns
returns c =
    let a = c.args in
    let l = flat_of a.x.now a.y.now a.z.now a.t.now in
    by_what_is_lent (lent_in a.lent) a.first l a.op a.inverse (eq-eqb _ 0 c.if-lent-ne0.false) c.deformation-2.ensures
