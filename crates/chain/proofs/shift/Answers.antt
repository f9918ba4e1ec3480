-- What is handed out and left is what the outcome says: by the refusal of a call where it is refused
-- (`flat-refusal`, `refused-by`), else by the chain (`run-by`). Assumes nothing.
use native.Mathlib.Omega.{arith}
use mathlib.Core.Path.{sym, ◌∙◌}
use mathlib.Core.List.{[]}
use Rattle.sheet.specs.Layout.{step_count_of, entry_at}
use Rattle.plans.specs.Lent.{lent_of}
use Rattle.chain.specs.Chain.{chain_of, entries_of}
use Rattle.sheet.proofs.Order.{accepted_count}
use Rattle.sheet.proofs.Unless.{passed, failed, hands_on}
use Rattle.chain.specs.Rules.{shift_of}
use Rattle.chain.proofs.Outcome.{flat_nine_kept, call_kept, told_refused, told-ran, flat-refusal, refused-by, run-by}
use Rattle.chain.proofs.shift.Goals as goal

pub judge-requires : goal.judge-requires
judge-requires c = λ e. omega (arith, (flat_nine_kept _ (sym c.list_broken-nine.ensures ∙ e)).1)

pub returns-in_err-judge : goal.returns-in_err-judge
unfolding shift_of
returns-in_err-judge c =
    let o = c.judge.ensures in
    let err = c.in_err-judge.was in
    let none = failed _ _ o err in
    let a = c.args in
    let es = entries_of (entry_at a.s.now) (step_count_of a.s.now) 0 in
    told_refused _ (refused-by _ _ a.inverse es _ _ _ _ (flat-refusal _ _ _ _ _ c.list_broken-nine.ensures) none) none (hands_on _ _ o err c.from_residual.ensures.1)

pub over_list-requires : goal.over_list-requires
over_list-requires c =
    let count = c.step_count-n.ensures.0 in
    let kept = call_kept _ _ _ _ _ _ (passed _ _ c.judge.ensures c.in_ok-judge.was) in
    let nine = flat_nine_kept _ (sym c.list_broken-nine.ensures ∙ kept.1) in
    (rw count (accepted_count c.args.s.now kept.0), count, nine.0, nine.1)

pub returns : goal.returns
unfolding shift_of
returns c =
    let none = passed _ _ c.judge.ensures c.in_ok-judge.was in
    let e = rw (c.no_grid.ensures, c.step_count-n.ensures.0) at c.over_list.ensures in
    let a = c.args in
    let es = entries_of (entry_at a.s.now) (step_count_of a.s.now) 0 in
    told-ran (chain_of a.inverse (lent_of a.velocities.now a.marks.now []) es a.list.now) (run-by _ _ a.inverse es _ _ _ _ (flat-refusal _ _ _ _ _ c.list_broken-nine.ensures) none) e.1 e.0
