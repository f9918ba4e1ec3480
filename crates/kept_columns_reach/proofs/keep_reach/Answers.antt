-- A refused call hands on the refusal; one that is not tells what the pass over the rows tells
-- (`columns-tally`). Assumes nothing.
use mathlib.Core.Path.{sym, ap, ◌∙◌}
use Rattle.std.specs.Prelude.{Ok}
use Rattle.columns.specs.Columns.{columns}
use Rattle.sheet.proofs.Unless.{accepts, refuses, passed, failed, hands_on}
use Rattle.stretch.specs.KeptColumns.{kept_columns}
use Rattle.kept_columns_reach.proofs.Rows.{columns-tally}
use Rattle.kept_columns_reach.proofs.keep_reach.Goals as goal

pub returns-in_err-keep : goal.returns-in_err-keep
returns-in_err-keep c =
    let e = c.keep.ensures in
    (hands_on _ _ e.0 c.in_err-keep.was c.from_residual.ensures.1 ∙ sym (refuses _ _ (failed _ _ e.0 c.in_err-keep.was)), e.1)

pub returns : goal.returns
returns c =
    let a = c.args in
    let old = kept_columns (columns a.x.now a.y.now a.z.now a.t.now) (columns a.rx.now a.ry.now a.rz.now a.rt.now) (columns a.kx.now a.ky.now a.kz.now a.kt.now) in
    let e = c.keep.ensures in
    let none = passed _ _ e.0 c.in_ok-keep.was in
    let told = rw (c.start-start.ensures, c.step_in.ensures.0) at c.pass-tally.ensures in
    (ap Ok (columns-tally a.inverse a.s.now old none told) ∙ sym (accepts _ _ none), e.1)
