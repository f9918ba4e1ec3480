-- What is handed out and left is what the outcome says: by the refusal of a call where it is refused
-- (`refused-by`), else by the chain (`run_by`). Assumes nothing.
use mathlib.Core.Path.{refl, sym, ap, ◌∙◌}
use Rattle.sheet.specs.Layout.{step_count_of, entry_at}
use Rattle.plans.specs.Lent.{lent_of}
use Rattle.chain.specs.Chain.{chain_of, entries_of}
use Rattle.sheet.proofs.Order.{accepted_count}
use Rattle.sheet.proofs.Unless.{passed, failed, hands_on}
use Rattle.chain.specs.Grid.{grid_refusal_of, shift_grid_of}
use Rattle.chain.proofs.Outcome.{flat_nine_kept, told_refused, told-ran}
use Rattle.chain.proofs.Grid.{grid_kept, refused-by, run_by}
use Rattle.chain.proofs.shift_grid.Goals as goal

pub returns-in_err-judge_grid : goal.returns-in_err-judge_grid
unfolding shift_grid_of
returns-in_err-judge_grid c =
    let o = rw c.list_broken.ensures at c.judge_grid.ensures in
    let err = c.in_err-judge_grid.was in
    let none = failed _ _ o err in
    told_refused _ (refused-by _ _ _ _ _ _ _ _ refl none) none (hands_on _ _ o err c.from_residual.ensures.1)

pub over_list-requires : goal.over_list-requires
over_list-requires c =
    let count = c.step_count-n.ensures.0 in
    let kept = grid_kept _ _ _ _ _ (passed _ _ c.judge_grid.ensures c.in_ok-judge_grid.was) in
    let nine = flat_nine_kept _ (sym c.list_broken.ensures ∙ kept.1) in
    (rw count (accepted_count c.args.s.now kept.0), count, nine.0, nine.1)

pub returns : goal.returns
unfolding shift_grid_of
returns c =
    let o = rw c.list_broken.ensures at c.judge_grid.ensures in
    let none = passed _ _ o c.in_ok-judge_grid.was in
    let e = rw c.step_count-n.ensures.0 at c.over_list.ensures in
    let a = c.args in
    let es = entries_of (entry_at a.s.now) (step_count_of a.s.now) 0 in
    told-ran (chain_of a.inverse (lent_of a.velocities.now a.marks.now a.grid.now) es a.list.now) (run_by _ a.inverse es _ _ _ _ _ refl none) e.1 e.0
