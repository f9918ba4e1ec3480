-- Refused, or done: the room's part is what came back (`grid-closure-done`), and what is behind it
-- stays. Assumes nothing.
use mathlib.Core.Path.{refl, sym}
use lib.Seq.{length-take-le}
use Rattle.closure_run.proofs.Answers.{told_refused, told_done}
use Rattle.closure_run.proofs.GridAnswers.{grid-passed, grid-closure-refused, grid-closure-done}
use Rattle.sheet.proofs.Unless.{passed as let-through, failed, hands_on}
use Rattle.closure_run.proofs.closure_grid.Goals as goal

pub returns-in_err-judge_grid : goal.returns-in_err-judge_grid
returns-in_err-judge_grid c =
    let o = c.judge_grid.ensures in
    let err = c.in_err-judge_grid.was in
    let broken = failed _ _ o err in
    told_refused _ _ (grid-closure-refused _ _ _ _ _ _ _ _ _ refl broken) broken (hands_on _ _ o err c.from_residual.ensures.1)

pub slice_bounds-grid_close-end : goal.slice_bounds-grid_close-end
slice_bounds-grid_close-end c = (grid-passed _ _ _ _ _ _ _ (let-through _ _ c.judge_grid.ensures c.in_ok-judge_grid.was)).fits

pub slice_bounds-grid_close-end-2 : goal.slice_bounds-grid_close-end-2
slice_bounds-grid_close-end-2 c = sym (length-take-le _ _ (grid-passed _ _ _ _ _ _ _ (let-through _ _ c.judge_grid.ensures c.in_ok-judge_grid.was)).fits)

pub grid_close-added-requires : goal.grid_close-added-requires
grid_close-added-requires c =
    let p = grid-passed _ _ _ _ _ _ _ (let-through _ _ c.judge_grid.ensures c.in_ok-judge_grid.was) in
    (p.is_read, p.kept9, p.kept10, p.kept-grid, length-take-le _ _ p.fits)

pub returns : goal.returns
returns c =
    let e = c.grid_close-added.ensures in
    let none = let-through _ _ c.judge_grid.ensures c.in_ok-judge_grid.was in
    told_done _ _ (grid-closure-done _ _ _ _ _ _ _ _ _ refl none _ _ e.0 e.1) none
