-- What a correction makes is one outcome: refused by the rules in their order (`refusal_is`), by 14
-- (`columns-refused-14`), or corrected (`columns-corrected`); its answer hands out the refusal, or how
-- many fixes were redone. Assumes nothing.
use mathlib.Core.Path.{refl, sym, ap, ◌∙◌}
use Rattle.std.specs.Prelude.{Err}
use Rattle.columns.specs.Columns.{columns}
use Rattle.sheet.specs.declared.Refusal.{Refusal}
use Rattle.sheet.specs.Rules.{of_call}
use Rattle.sheet.proofs.Order.{not_zero}
use Rattle.sheet.proofs.Unless.{accepts, refuses, passed, failed, hands_on}
use Rattle.stretch.specs.KeptColumns.{kept_columns}
use Rattle.kept.specs.Entries.{redone_in}
use Rattle.kept_columns.specs.Columns.{CorrectColumnsOutcome}
use Rattle.kept_columns.proofs.Columns.{refusal_is, columns-refused, columns-refused-14, columns-corrected}
use Rattle.kept_columns.proofs.correct.Goals as goal

pub returns-in_err-check_lengths : goal.returns-in_err-check_lengths
returns-in_err-check_lengths c =
    let a = c.args in
    let s = a.s.now in
    let old = kept_columns (columns a.x.now a.y.now a.z.now a.t.now) (columns a.rx.now a.ry.now a.rz.now a.rt.now) (columns a.kx.now a.ky.now a.kz.now a.kt.now) in
    let o = c.check_lengths.ensures in
    let none = failed _ _ o c.in_err-check_lengths.was in
    let made = columns-refused a.inverse s old a.index a.fix (refusal_is s old refl) none in (
      hands_on _ _ o c.in_err-check_lengths.was c.from_residual.ensures.1 ∙ sym (refuses _ 0 none) ∙ ap (λ (o : CorrectColumnsOutcome). redone_in o.answer) made,
      ap (λ (o : CorrectColumnsOutcome). o.kept) made,
    )

pub returns-then-index_broken : goal.returns-then-index_broken
returns-then-index_broken c =
    let a = c.args in
    let s = a.s.now in
    let old = kept_columns (columns a.x.now a.y.now a.z.now a.t.now) (columns a.rx.now a.ry.now a.rz.now a.rt.now) (columns a.kx.now a.ky.now a.kz.now a.kt.now) in
    let none = sym (ap (λ (r : Refusal). r.number) (refusal_is s old refl)) ∙ passed _ _ c.check_lengths.ensures c.in_ok-check_lengths.was in
    let made = columns-refused-14 a.inverse s old a.index a.fix none (sym c.index_broken.ensures ∙ c.if-index_broken.true) in (
      ap Err c.of_call.ensures ∙ sym (refuses (of_call 14) 0 (not_zero 13)) ∙ ap (λ (o : CorrectColumnsOutcome). redone_in o.answer) made,
      ap (λ (o : CorrectColumnsOutcome). o.kept) made,
    )

pub returns : goal.returns
returns c =
    let a = c.args in
    let s = a.s.now in
    let old = kept_columns (columns a.x.now a.y.now a.z.now a.t.now) (columns a.rx.now a.ry.now a.rz.now a.rt.now) (columns a.kx.now a.ky.now a.kz.now a.kt.now) in
    let none = passed _ _ c.check_lengths.ensures c.in_ok-check_lengths.was in
    let there = sym c.index_broken.ensures ∙ c.if-index_broken.false in
    let step = c.step_in-step.ensures in
    let made = columns-corrected a.inverse s old a.index a.fix (refusal_is s old refl) none there (rw (step.0, step.1) at c.put_right-n.ensures) in
    (sym (accepts _ _ none) ∙ ap (λ (o : CorrectColumnsOutcome). redone_in o.answer) made, ap (λ (o : CorrectColumnsOutcome). o.kept) made)
