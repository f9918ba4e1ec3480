-- Refused, or done: the room's part is what came back (`closure-done`), and what is behind it
-- stays. Assumes nothing.
use mathlib.Core.Path.{refl, sym}
use lib.Seq.{length-take-le}
use Rattle.closure_run.proofs.Answers.{passed, told_refused, told_done, closure-refused, closure-done}
use Rattle.sheet.proofs.Unless.{passed as let-through, failed, hands_on}
use Rattle.closure_run.proofs.closure.Goals as goal

pub returns-in_err-judge : goal.returns-in_err-judge
returns-in_err-judge c =
    let o = c.judge.ensures in
    let err = c.in_err-judge.was in
    let broken = failed _ _ o err in
    told_refused _ _ (closure-refused _ _ _ _ _ _ _ _ refl broken) broken (hands_on _ _ o err c.from_residual.ensures.1)

pub slice_bounds-close-end : goal.slice_bounds-close-end
slice_bounds-close-end c = (passed _ _ _ _ _ _ (let-through _ _ c.judge.ensures c.in_ok-judge.was)).fits

pub slice_bounds-close-end-2 : goal.slice_bounds-close-end-2
slice_bounds-close-end-2 c = sym (length-take-le _ _ (passed _ _ _ _ _ _ (let-through _ _ c.judge.ensures c.in_ok-judge.was)).fits)

pub close-added-requires : goal.close-added-requires
close-added-requires c =
    let p = passed _ _ _ _ _ _ (let-through _ _ c.judge.ensures c.in_ok-judge.was) in
    (p.is_read, p.kept9, p.kept10, length-take-le _ _ p.fits)

pub returns : goal.returns
returns c =
    let e = c.close-added.ensures in
    let none = let-through _ _ c.judge.ensures c.in_ok-judge.was in
    told_done _ _ (closure-done _ _ _ _ _ _ _ _ refl none _ _ e.0 e.1) none
