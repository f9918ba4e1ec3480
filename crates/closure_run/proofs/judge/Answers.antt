-- One case for each way through the tests, in the order of `closure_order`. Assumes nothing.
use native.Mathlib.Omega.{arith}
use mathlib.Core.Path.{sym, ap, ◌∙◌}
use borrow.Author.Tests.{lt-ltb, le-ltb}
use Rattle.std.specs.Prelude.{Err}
use Rattle.sheet.specs.Rules.{of_call}
use Rattle.sheet.proofs.Unless.{accepts, refuses, passed, failed, hands_on}
use Rattle.closure_run.specs.Closure.{refusal15}
use Rattle.closure_run.proofs.Answers.{refused-own, refused-9, refused-10, refused-15, not-refused}
use Rattle.closure_run.proofs.judge.Goals as goal
use mathlib.Core.Path.{refl}

pub returns-in_err-check : goal.returns-in_err-check
returns-in_err-check c =
    let o = c.check.ensures in
    let err = c.in_err-check.was in
    let broken = failed _ _ o err in
    rw (refused-own _ _ _ _ _ _ _ refl broken) (hands_on _ _ o err c.from_residual.ensures.1 ∙ sym (refuses _ tt broken))

pub returns-then-list_broken : goal.returns-then-list_broken
returns-then-list_broken c =
    let own = passed _ _ c.check.ensures c.in_ok-check.was in
    rw (refused-9 _ _ _ _ _ _ _ refl own (sym c.list_broken.ensures ∙ c.if-list_broken.true)) (ap Err c.of_call.ensures ∙ sym (refuses (of_call 9) tt (λ z. omega arith)))

pub returns-then-lent_broken : goal.returns-then-lent_broken
returns-then-lent_broken c =
    let own = passed _ _ c.check.ensures c.in_ok-check.was in
    let ten = sym (rw c.has_deformation.ensures at c.lent_broken.ensures) ∙ c.if-lent_broken.true in
    rw (refused-10 _ _ _ _ _ _ _ refl own (sym c.list_broken.ensures ∙ c.if-list_broken.false) ten) (ap Err c.of_call-then-lent_broken.ensures ∙ sym (refuses (of_call 10) tt (λ z. omega arith)))

pub returns-then-room-numbers : goal.returns-then-room-numbers
unfolding refusal15
returns-then-room-numbers c =
    let own = passed _ _ c.check.ensures c.in_ok-check.was in
    let ten = sym (rw c.has_deformation.ensures at c.lent_broken.ensures) ∙ c.if-lent_broken.false in
    rw (refused-15 _ _ _ _ _ _ _ refl own (sym c.list_broken.ensures ∙ c.if-list_broken.false) ten (lt-ltb _ _ c.if-room-numbers.true)) (ap Err c.of_call-then-room-numbers.ensures ∙ sym (refuses (of_call 15) tt (λ z. omega arith)))

pub returns : goal.returns
unfolding refusal15
returns c =
    let own = passed _ _ c.check.ensures c.in_ok-check.was in
    let ten = sym (rw c.has_deformation.ensures at c.lent_broken.ensures) ∙ c.if-lent_broken.false in
    rw (not-refused _ _ _ _ _ _ _ refl own (sym c.list_broken.ensures ∙ c.if-list_broken.false) ten (le-ltb _ _ c.if-room-numbers.false)) (sym (accepts _ tt refl))
