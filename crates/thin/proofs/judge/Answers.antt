-- One case for each way through the tests. What the `?` hands on is the sheet's own refusal
-- (`own_first`); past it that is none, and `too_many`, `lent-wrong` and `nothing-wrong` say which rule
-- decides. Assumes nothing.
use mathlib.Core.Path.{◌≡◌, refl, sym, ap, ◌∙◌}
use Rattle.sheet.specs.declared.Refusal.{Refusal}
use Rattle.sheet.specs.Rules.{accepted, of_call, unless}
use Rattle.sheet.proofs.Unless.{accepts, refuses, passed, failed, hands_on}
use Rattle.sheet.proofs.Order.{not_zero}
use Rattle.thin.specs.Sheets.{thin_refusal_of}
use Rattle.thin.proofs.Laws.{own_first, too_many, lent-wrong, nothing-wrong}
use Rattle.thin.proofs.judge.Goals as goal

pub returns-in_err-check : goal.returns-in_err-check
unfolding thin_refusal_of
returns-in_err-check c =
    let o = c.check.ensures in
    let none = failed _ _ o c.in_err-check.was in
    hands_on _ _ o c.in_err-check.was c.from_residual.ensures.1 ∙ sym (refuses _ tt none) ∙ sym (ap (λ (r : Refusal). unless r tt) (own_first _ _ _ _ _ none))

pub returns-then-tuples-gt2048 : goal.returns-then-tuples-gt2048
unfolding thin_refusal_of
returns-then-tuples-gt2048 c =
    let own = passed _ _ c.check.ensures c.in_ok-check.was in
    rw c.of_call.ensures (sym (refuses (of_call 9) tt (not_zero 8)) ∙ sym (ap (λ (r : Refusal). unless r tt) (too_many _ _ _ _ _ own c.if-tuples-gt2048.true)))

pub returns-then-lent_broken : goal.returns-then-lent_broken
unfolding thin_refusal_of
returns-then-lent_broken c =
    let own = passed _ _ c.check.ensures c.in_ok-check.was in
    let ten = sym (rw c.has_deformation.ensures at c.lent_broken.ensures) ∙ c.if-lent_broken.true in
    rw c.of_call-then-lent_broken.ensures (sym (refuses (of_call 10) tt (not_zero 9)) ∙ sym (ap (λ (r : Refusal). unless r tt) (lent-wrong _ _ _ _ _ own c.if-tuples-gt2048.false ten)))

pub returns : goal.returns
unfolding thin_refusal_of
returns c =
    let own = passed _ _ c.check.ensures c.in_ok-check.was in
    let ten = sym (rw c.has_deformation.ensures at c.lent_broken.ensures) ∙ c.if-lent_broken.false in
    sym (accepts accepted tt refl) ∙ sym (ap (λ (r : Refusal). unless r tt) (nothing-wrong _ _ _ _ _ own c.if-tuples-gt2048.false ten))
