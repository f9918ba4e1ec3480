-- What the `?` hands on is the sheet's own refusal (`own-refused`); past it that is none, and each test
-- that fails is the next rule in the order, kept. Assumes nothing.
use mathlib.Core.Path.{refl, sym, ap, ◌∙◌}
use Rattle.std.specs.Prelude.{Err}
use Rattle.sheet.specs.declared.Refusal.{Refusal}
use Rattle.sheet.specs.Rules.{accepted, of_call, unless}
use Rattle.sheet.proofs.Order.{not_zero}
use Rattle.sheet.proofs.Unless.{accepts, refuses, passed, failed, hands_on}
use Rattle.kept.proofs.Answers.{own-refused, refused-12, refused-9, refused-13, none-refused}
use Rattle.kept.proofs.check_order.Goals as goal

pub returns-in_err-check : goal.returns-in_err-check
returns-in_err-check c =
    let o = c.check.ensures in
    let none = failed _ _ o c.in_err-check.was in
    hands_on _ _ o c.in_err-check.was c.from_residual.ensures.1 ∙ sym (refuses _ tt none) ∙ ap (λ (r : Refusal). unless r tt) (own-refused _ _ _ none)

pub returns-then-step_broken : goal.returns-then-step_broken
returns-then-step_broken c =
    let own = passed _ _ c.check.ensures c.in_ok-check.was in
    ap Err c.of_call.ensures ∙ sym (refuses (of_call 12) tt (not_zero 11)) ∙ ap (λ (r : Refusal). unless r tt) (refused-12 _ _ _ own (sym c.step_broken.ensures ∙ c.if-step_broken.true))

pub returns-then-nine : goal.returns-then-nine
returns-then-nine c =
    let own = passed _ _ c.check.ensures c.in_ok-check.was in
    ap Err c.of_call-then-nine.ensures
    ∙ sym (refuses (of_call 9) tt (not_zero 8))
    ∙ ap (λ (r : Refusal). unless r tt) (refused-9 _ _ _ own (sym c.step_broken.ensures ∙ c.if-step_broken.false) c.if-nine.true)

pub returns-then-thirteen : goal.returns-then-thirteen
returns-then-thirteen c =
    let own = passed _ _ c.check.ensures c.in_ok-check.was in
    ap Err c.of_call-then-thirteen.ensures
    ∙ sym (refuses (of_call 13) tt (not_zero 12))
    ∙ ap (λ (r : Refusal). unless r tt) (refused-13 _ _ _ own (sym c.step_broken.ensures ∙ c.if-step_broken.false) c.if-nine.false c.if-thirteen.true)

pub returns : goal.returns
returns c =
    let own = passed _ _ c.check.ensures c.in_ok-check.was in
    sym (accepts accepted tt refl)
    ∙ ap (λ (r : Refusal). unless r tt) (none-refused _ _ _ own (sym c.step_broken.ensures ∙ c.if-step_broken.false) c.if-nine.false c.if-thirteen.false)
