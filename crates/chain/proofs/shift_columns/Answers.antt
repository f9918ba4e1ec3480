-- What is handed out and left is what the outcome says: by the refusal of a call where it is refused
-- (`columns-refusal`, `columns-refused-by`), else by the chain (`columns-run-by`); that every column is
-- fixed is `columns_of_lem`. Assumes nothing.
use mathlib.Core.Path.{sym, ◌∙◌}
use borrow.Author.Rules.{rules}
use mathlib.Core.List.{[]}
use Rattle.columns.specs.Columns.{columns, flat_of}
use Rattle.sheet.specs.Layout.{step_count_of, entry_at}
use Rattle.plans.specs.Lent.{lent_of}
use Rattle.chain.specs.Chain.{chain_of, entries_of}
use Rattle.sheet.proofs.Order.{accepted_count}
use Rattle.sheet.proofs.Unless.{passed, failed, hands_on}
use Rattle.chain.specs.Columns.{shift_columns_of}
use Rattle.chain.proofs.Outcome.{call_kept}
use Rattle.chain.proofs.Columns.{nine_kept, columns_told_refused, columns_told-ran, columns-refusal, columns-refused-by, columns-run-by, columns_of_lem}
use Rattle.chain.proofs.shift_columns.Goals as goal

pub judge-requires : goal.judge-requires
judge-requires c = λ e. (nine_kept _ _ _ _ (sym c.columns_broken-nine.ensures ∙ e)).1

pub returns-in_err-judge : goal.returns-in_err-judge
unfolding shift_columns_of
returns-in_err-judge c =
    let a = c.args in
    let o = c.judge.ensures in
    let err = c.in_err-judge.was in
    let none = failed _ _ o err in
    let es = entries_of (entry_at a.s.now) (step_count_of a.s.now) 0 in
    columns_told_refused _ (columns-refused-by _ _ a.inverse es (columns a.x.now a.y.now a.z.now a.t.now) _ _ _ (columns-refusal _ _ (columns a.x.now a.y.now a.z.now a.t.now) _ _ c.columns_broken-nine.ensures) none) none (hands_on _ _ o err c.from_residual.ensures.1)

pub over_columns-requires : goal.over_columns-requires
over_columns-requires c =
    let count = c.step_count-n.ensures.0 in
    let kept = call_kept _ _ _ _ _ _ (passed _ _ c.judge.ensures c.in_ok-judge.was) in
    let nine = nine_kept _ _ _ _ (sym c.columns_broken-nine.ensures ∙ kept.1) in
    (rw count (accepted_count c.args.s.now kept.0), count, nine.0, nine.1)

pub returns : goal.returns
unfolding shift_columns_of
returns c =
    let a = c.args in
    let none = passed _ _ c.judge.ensures c.in_ok-judge.was in
    let kept = call_kept _ _ _ _ _ _ none in
    let nine = nine_kept _ _ _ _ (sym c.columns_broken-nine.ensures ∙ kept.1) in
    let e = rw (c.no_grid.ensures, c.step_count-n.ensures.0) at c.over_columns.ensures in
    let es = entries_of (entry_at a.s.now) (step_count_of a.s.now) 0 in
    columns_told-ran (chain_of a.inverse (lent_of a.velocities.now a.marks.now []) es (flat_of a.x.now a.y.now a.z.now a.t.now)) (columns-run-by _ _ a.inverse es (columns a.x.now a.y.now a.z.now a.t.now) _ _ _ (columns-refusal _ _ (columns a.x.now a.y.now a.z.now a.t.now) _ _ c.columns_broken-nine.ensures) none) e.1 (columns_of_lem _ _ _ _ (search (rules, nine.0), search (rules, nine.0), search (rules, nine.0)) e.0)
