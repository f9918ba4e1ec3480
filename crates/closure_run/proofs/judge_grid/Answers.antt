-- One case for each way through the tests, in the order of `closure_grid_order`. Assumes nothing.
use native.Mathlib.Omega.{arith}
use mathlib.Core.Path.{refl, sym, ap, ◌∙◌}
use borrow.Author.Tests.{lt-ltb, le-ltb}
use Rattle.std.specs.Prelude.{Err}
use Rattle.sheet.specs.Rules.{of_call}
use Rattle.sheet.proofs.Unless.{accepts, refuses, passed, failed, hands_on}
use Rattle.grid_rules.proofs.Laws.{unless_err, unless_not_0}
use Rattle.chain.proofs.Grid.{let_through}
use Rattle.closure_run.specs.Closure.{refusal15}
use Rattle.closure_run.proofs.GridAnswers.{grid-refused-own, grid-refused-9, grid-refused-10, grid-refused, grid-refused-15, grid-not-refused}
use Rattle.closure_run.proofs.judge_grid.Goals as goal

pub returns-in_err-check : goal.returns-in_err-check
returns-in_err-check c =
    let o = c.check.ensures in
    let err = c.in_err-check.was in
    let broken = failed _ _ o err in
    rw (grid-refused-own _ _ _ _ _ _ _ _ refl broken) (hands_on _ _ o err c.from_residual.ensures.1 ∙ sym (refuses _ tt broken))

pub returns-then-list_broken : goal.returns-then-list_broken
returns-then-list_broken c =
    let own = passed _ _ c.check.ensures c.in_ok-check.was in
    rw (grid-refused-9 _ _ _ _ _ _ _ _ refl own (sym c.list_broken.ensures ∙ c.if-list_broken.true)) (ap Err c.of_call.ensures ∙ sym (refuses (of_call 9) tt (λ z. omega arith)))

pub returns-then-lent_broken : goal.returns-then-lent_broken
returns-then-lent_broken c =
    let own = passed _ _ c.check.ensures c.in_ok-check.was in
    rw (grid-refused-10 _ _ _ _ _ _ _ _ refl own (sym c.list_broken.ensures ∙ c.if-list_broken.false) (sym c.lent_broken.ensures ∙ c.if-lent_broken.true)) (ap Err c.of_call-then-lent_broken.ensures ∙ sym (refuses (of_call 10) tt (λ z. omega arith)))

pub returns-in-Err : goal.returns-in-Err
returns-in-Err c =
    let own = passed _ _ c.check.ensures c.in_ok-check.was in
    let g = c.check_grid.ensures in
    let err = c.in-Err.is in
    rw (grid-refused _ _ _ _ _ _ _ _ refl own (sym c.list_broken.ensures ∙ c.if-list_broken.false) (sym c.lent_broken.ensures ∙ c.if-lent_broken.false) (unless_not_0 _ g err))
    (ap Err (c.of_call-in-Err.ensures ∙ ap of_call (unless_err _ g err)) ∙ sym (refuses (of_call _) tt (unless_not_0 _ g err)))

pub returns-then-room-numbers : goal.returns-then-room-numbers
unfolding refusal15
returns-then-room-numbers c =
    let own = passed _ _ c.check.ensures c.in_ok-check.was in
    rw (grid-refused-15 _ _ _ _ _ _ _ _ refl own (sym c.list_broken.ensures ∙ c.if-list_broken.false) (sym c.lent_broken.ensures ∙ c.if-lent_broken.false) (let_through _ c.check_grid.ensures c.in_default.not-Err) (lt-ltb _ _ c.if-room-numbers.true)) (ap Err c.of_call-then-room-numbers.ensures ∙ sym (refuses (of_call 15) tt (λ z. omega arith)))

pub returns : goal.returns
unfolding refusal15
returns c =
    let own = passed _ _ c.check.ensures c.in_ok-check.was in
    rw (grid-not-refused _ _ _ _ _ _ _ _ refl own (sym c.list_broken.ensures ∙ c.if-list_broken.false) (sym c.lent_broken.ensures ∙ c.if-lent_broken.false) (let_through _ c.check_grid.ensures c.in_default.not-Err) (le-ltb _ _ c.if-room-numbers.false)) (sym (accepts _ tt refl))
