-- One case for each way through the tests: one of 1 to 8 answers (`other-answers`), or all are kept
-- (`eight_kept`) and the profile answers (`profile-answers`), or the reader by 11 or not at all
-- (`reader-answers`). Assumes nothing.
use mathlib.Core.Path.{refl, sym, ◌∙◌}
use Rattle.sheet.proofs.Unless.{refuses, passed, failed, hands_on}
use Rattle.profile.proofs.Judging.{other-answers, eight_kept, kept_count, profile-answers, reader-answers}
use Rattle.profile.proofs.check.Goals as goal

pub returns-then-comes_first : goal.returns-then-comes_first
returns-then-comes_first c =
    rw (other-answers c.args.s.now tt _ c.check-own.ensures _ c.comes_first.ensures c.args.profile c.if-comes_first.true) c.check-own.ensures

pub judge-requires : goal.judge-requires
judge-requires c =
    let count = c.step_count.ensures.0 in
    let kept = eight_kept c.args.s.now tt _ c.check-own.ensures _ c.comes_first.ensures c.if-comes_first.false in
    (rw count (kept_count _ kept), count)

pub returns-in_err-judge : goal.returns-in_err-judge
returns-in_err-judge c =
    let kept = eight_kept c.args.s.now tt _ c.check-own.ensures _ c.comes_first.ensures c.if-comes_first.false in
    let o = c.judge.ensures in
    let err = c.in_err-judge.was in
    let some = failed _ _ o err in
    rw (profile-answers _ _ kept _ refl some) (hands_on _ _ o err c.from_residual.ensures.1 ∙ sym (refuses _ tt some))

pub returns : goal.returns
returns c =
    let kept = eight_kept c.args.s.now tt _ c.check-own.ensures _ c.comes_first.ensures c.if-comes_first.false in
    rw (reader-answers _ _ kept _ refl (passed _ _ c.judge.ensures c.in_ok-judge.was)) c.check-own.ensures
