-- What is handed out and left is what the outcome says: by the refusal of a call where it is refused
-- (`columns-refused-by`), else by the chain (`columns-run-by`); that every column is fixed is
-- `columns_of_lem`. Assumes nothing.
use mathlib.Core.Path.{refl, sym, ◌∙◌}
use borrow.Author.Rules.{rules}
use Rattle.columns.specs.Columns.{columns, flat_of}
use Rattle.sheet.specs.Layout.{step_count_of, entry_at}
use Rattle.plans.specs.Lent.{lent_of}
use Rattle.chain.specs.Chain.{chain_of, entries_of}
use Rattle.sheet.proofs.Order.{accepted_count}
use Rattle.sheet.proofs.Unless.{passed, failed, hands_on}
use Rattle.chain.specs.Grid.{shift_columns_grid_of}
use Rattle.chain.proofs.Grid.{grid_kept, columns-refused-by, columns-run-by}
use Rattle.chain.proofs.Columns.{nine_kept, columns_told_refused, columns_told-ran, columns_of_lem}
use Rattle.chain.proofs.shift_columns_grid.Goals as goal

pub returns-in_err-judge_grid : goal.returns-in_err-judge_grid
unfolding shift_columns_grid_of
returns-in_err-judge_grid c =
    let a = c.args in
    let o = rw c.columns_broken-nine.ensures at c.judge_grid.ensures in
    let err = c.in_err-judge_grid.was in
    let none = failed _ _ o err in
    columns_told_refused _ (columns-refused-by _ _ _ (columns a.x.now a.y.now a.z.now a.t.now) _ _ _ _ refl none) none (hands_on _ _ o err c.from_residual.ensures.1)

pub over_columns-requires : goal.over_columns-requires
over_columns-requires c =
    let count = c.step_count-n.ensures.0 in
    let kept = grid_kept _ _ _ _ _ (passed _ _ c.judge_grid.ensures c.in_ok-judge_grid.was) in
    let nine = nine_kept _ _ _ _ (sym c.columns_broken-nine.ensures ∙ kept.1) in
    (rw count (accepted_count c.args.s.now kept.0), count, nine.0, nine.1)

pub returns : goal.returns
unfolding shift_columns_grid_of
returns c =
    let a = c.args in
    let o = rw c.columns_broken-nine.ensures at c.judge_grid.ensures in
    let none = passed _ _ o c.in_ok-judge_grid.was in
    let kept = grid_kept _ _ _ _ _ none in
    let nine = nine_kept _ _ _ _ kept.1 in
    let e = rw c.step_count-n.ensures.0 at c.over_columns.ensures in
    let es = entries_of (entry_at a.s.now) (step_count_of a.s.now) 0 in
    columns_told-ran (chain_of a.inverse (lent_of a.velocities.now a.marks.now a.grid.now) es (flat_of a.x.now a.y.now a.z.now a.t.now)) (columns-run-by _ a.inverse es (columns a.x.now a.y.now a.z.now a.t.now) _ _ _ _ refl none) e.1 (columns_of_lem _ _ _ _ (search (rules, nine.0), search (rules, nine.0), search (rules, nine.0)) e.0)
