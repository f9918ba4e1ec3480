-- A refused call hands on the refusal (`hands_on`, in its order by `refusal_is`) and leaves every column
-- (`columns-kept-out`); one that is not is a fresh run (`columns-kept`). Assumes nothing.
use mathlib.Core.Path.{refl, sym, ap, ◌∙◌}
use Rattle.columns.specs.Columns.{columns}
use Rattle.sheet.specs.declared.Refusal.{Refusal}
use Rattle.sheet.specs.Rules.{unless}
use Rattle.sheet.proofs.Unless.{accepts, refuses, passed, failed, hands_on}
use Rattle.stretch.specs.KeptColumns.{kept_columns}
use Rattle.kept_columns.proofs.Columns.{refusal_is, columns-kept-out, columns-kept}
use Rattle.kept_columns.proofs.keep.Goals as goal

pub returns-in_err-check_lengths : goal.returns-in_err-check_lengths
returns-in_err-check_lengths c =
    let a = c.args in
    let s = a.s.now in
    let old = kept_columns (columns a.x.now a.y.now a.z.now a.t.now) (columns a.rx.now a.ry.now a.rz.now a.rt.now) (columns a.kx.now a.ky.now a.kz.now a.kt.now) in
    let same = refusal_is s old refl in
    let o = c.check_lengths.ensures in
    let none = failed _ _ o c.in_err-check_lengths.was in (
      hands_on _ _ o c.in_err-check_lengths.was c.from_residual.ensures.1 ∙ sym (refuses _ tt none) ∙ ap (λ (r : Refusal). unless r tt) same,
      columns-kept-out a.inverse s old (λ z. none (ap (λ (r : Refusal). r.number) same ∙ z)),
    )

pub returns : goal.returns
returns c =
    let a = c.args in
    let s = a.s.now in
    let old = kept_columns (columns a.x.now a.y.now a.z.now a.t.now) (columns a.rx.now a.ry.now a.rz.now a.rt.now) (columns a.kx.now a.ky.now a.kz.now a.kt.now) in
    let same = refusal_is s old refl in
    let none = sym (ap (λ (r : Refusal). r.number) same) ∙ passed _ _ c.check_lengths.ensures c.in_ok-check_lengths.was in
    let step = c.step_in-step.ensures in
    (sym (accepts _ tt none), columns-kept a.inverse s old none (rw (step.0, step.1) at c.fresh.ensures))
