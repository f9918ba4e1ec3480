-- A refused call hands on the refusal; what one that is not has made is its outcome (`handed`), of which
-- the pass over the stretch tells (`stretch-met`), which lies in the list (`stretch-fits`). Assumes
-- nothing.
use mathlib.Core.Path.{sym, ap, ◌∙◌}
use Rattle.sheet.proofs.Unless.{refuses, passed, passed_value, failed, hands_on}
use Rattle.tally.specs.declared.Tally.{Tally}
use Rattle.stretch.specs.Kept.{kept_of}
use Rattle.kept.specs.Entries.{correct_of}
use Rattle.kept.proofs.Answers.{handed}
use Rattle.kept_reach.proofs.Stretch.{told-is, stretch-small, stretch-fits, stretch-met}
use borrow.Author.Rules.{rules}
use Rattle.kept_reach.proofs.correct_reach.Goals as goal

pub returns-in_err-redone : goal.returns-in_err-redone
returns-in_err-redone c =
    let e = c.correct.ensures in
    (hands_on _ _ e.0 c.in_err-redone.was c.from_residual.ensures.1 ∙ sym (refuses _ _ (failed _ _ e.0 c.in_err-redone.was)), e.1)

pub overflow_mul-a : goal.overflow_mul-a
overflow_mul-a c =
    let a = c.args in
    let old = kept_of a.list.now a.results.now a.track.now in
    let o = correct_of a.inverse a.s.now old a.index a.fix in
    let e = c.correct.ensures in
    let none = passed o.answer.refusal o.answer.redone e.0 c.in_ok-redone.was in
    let made = handed o e.0 c.in_ok-redone.was e.1 in
    search (rules, stretch-small a.inverse a.s.now old a.index a.fix made none)

pub overflow_add-e : goal.overflow_add-e
overflow_add-e c =
    let a = c.args in
    let old = kept_of a.list.now a.results.now a.track.now in
    let o = correct_of a.inverse a.s.now old a.index a.fix in
    let e = c.correct.ensures in
    let none = passed o.answer.refusal o.answer.redone e.0 c.in_ok-redone.was in
    let made = handed o e.0 c.in_ok-redone.was e.1 in
    search (rules, stretch-small a.inverse a.s.now old a.index a.fix made none)

pub overflow_mul-e : goal.overflow_mul-e
overflow_mul-e c =
    let a = c.args in
    let old = kept_of a.list.now a.results.now a.track.now in
    let o = correct_of a.inverse a.s.now old a.index a.fix in
    let e = c.correct.ensures in
    let none = passed o.answer.refusal o.answer.redone e.0 c.in_ok-redone.was in
    let made = handed o e.0 c.in_ok-redone.was e.1 in
    search (rules, stretch-small a.inverse a.s.now old a.index a.fix made none)

pub offset_bounds-list-a : goal.offset_bounds-list-a
offset_bounds-list-a c =
    let a = c.args in
    let old = kept_of a.list.now a.results.now a.track.now in
    let o = correct_of a.inverse a.s.now old a.index a.fix in
    let e = c.correct.ensures in
    let none = passed o.answer.refusal o.answer.redone e.0 c.in_ok-redone.was in
    let made = handed o e.0 c.in_ok-redone.was e.1 in
    search (rules, stretch-small a.inverse a.s.now old a.index a.fix made none)

pub slice_bounds-fixes-end : goal.slice_bounds-fixes-end
slice_bounds-fixes-end c =
    let a = c.args in
    let old = kept_of a.list.now a.results.now a.track.now in
    let o = correct_of a.inverse a.s.now old a.index a.fix in
    let e = c.correct.ensures in
    let none = passed o.answer.refusal o.answer.redone e.0 c.in_ok-redone.was in
    let made = handed o e.0 c.in_ok-redone.was e.1 in
    stretch-fits a.inverse a.s.now old a.index a.fix made none

pub returns : goal.returns
returns c =
    let a = c.args in
    let old = kept_of a.list.now a.results.now a.track.now in
    let o = correct_of a.inverse a.s.now old a.index a.fix in
    let e = c.correct.ensures in
    let none = passed o.answer.refusal o.answer.redone e.0 c.in_ok-redone.was in
    let made = handed o e.0 c.in_ok-redone.was e.1 in
    let told = rw (c.before-from.ensures, c.step_in.ensures.0) at c.pass-told.ensures in
    let met = stretch-met a.inverse a.s.now old a.index a.fix made none (ap (λ (t : Tally). t.met) told) in
    (told-is o.answer _ none (passed_value o.answer.refusal o.answer.redone e.0 c.in_ok-redone.was) met, e.1)
