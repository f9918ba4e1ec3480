-- A refused call hands on the refusal; what one that is not has made is its outcome
-- (`columns-handed`), of which the pass over the stretch tells (`columns-met`), which lies in the rows
-- (`rows_in`). Assumes nothing.
use native.Mathlib.Omega.{arith}
use mathlib.Core.Path.{sym, ap, ◌∙◌}
use Rattle.sheet.proofs.Unless.{refuses, passed, passed_value, failed, hands_on}
use Rattle.tally.specs.declared.Tally.{Tally}
use Rattle.columns.specs.Columns.{columns, Level}
use Rattle.stretch.specs.KeptColumns.{kept_columns}
use Rattle.kept_columns.specs.Columns.{correct_columns_of}
use Rattle.kept_columns.proofs.Columns.{columns-handed}
use Rattle.kept_reach.proofs.Stretch.{told-is}
use Rattle.kept_columns_reach.proofs.Rows.{list_level, rows_in, columns-met}
use Rattle.kept_columns_reach.proofs.correct_reach.Goals as goal

pub returns-in_err-redone : goal.returns-in_err-redone
returns-in_err-redone c =
    let e = c.correct.ensures in
    (hands_on _ _ e.0 c.in_err-redone.was c.from_residual.ensures.1 ∙ sym (refuses _ _ (failed _ _ e.0 c.in_err-redone.was)), e.1)

pub pass_rows-told-requires : goal.pass_rows-told-requires
pass_rows-told-requires c =
    let a = c.args in
    let old = kept_columns (columns a.x.now a.y.now a.z.now a.t.now) (columns a.rx.now a.ry.now a.rz.now a.rt.now) (columns a.kx.now a.ky.now a.kz.now a.kt.now) in
    let o = correct_columns_of a.inverse a.s.now old a.index a.fix in
    let e = c.correct.ensures in
    let left = passed o.answer.refusal o.answer.redone e.0 c.in_ok-redone.was in
    let made = columns-handed o e.0 c.in_ok-redone.was e.1 in
    let same = c.correct.auto in
    let was = list_level a.inverse a.s.now old a.index a.fix made left in
    let n = c.correct.new in
    let level : Level n.x n.y n.z n.t = (omega (arith, was.0, same.x, same.y), omega (arith, was.1, same.x, same.z), omega (arith, was.2, same.x, same.t)) in
    (level, rows_in a.inverse a.s.now old a.index a.fix made left level)

pub returns : goal.returns
returns c =
    let a = c.args in
    let old = kept_columns (columns a.x.now a.y.now a.z.now a.t.now) (columns a.rx.now a.ry.now a.rz.now a.rt.now) (columns a.kx.now a.ky.now a.kz.now a.kt.now) in
    let o = correct_columns_of a.inverse a.s.now old a.index a.fix in
    let e = c.correct.ensures in
    let left = passed o.answer.refusal o.answer.redone e.0 c.in_ok-redone.was in
    let made = columns-handed o e.0 c.in_ok-redone.was e.1 in
    let told = rw (c.before-from.ensures, c.step_in.ensures.0) at c.pass_rows-told.ensures in
    let met = columns-met a.inverse a.s.now old a.index a.fix made left (ap (λ (t : Tally). t.met) told) in
    (told-is o.answer _ left (passed_value o.answer.refusal o.answer.redone e.0 c.in_ok-redone.was) met, e.1)
