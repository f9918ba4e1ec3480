-- One case for each way through the tests, in the rules' order: what the `?` hands on is the sheet's
-- own refusal (`hands_on`), and past it that is none (`passed`), so that the rules after it decide.
-- Assumes nothing.
use native.Mathlib.Omega.{arith}
use mathlib.Core.Path.{◌≡◌, sym, ◌∙◌}
use borrow.Author.Tests.{eq-eqb}
use Rattle.sheet.specs.Rules.{refusal_of, first_broken, unless}
use Rattle.sheet.proofs.Unless.{passed, failed, hands_on, first_refuses}
use Rattle.chain.proofs.judge.Goals as goal

pub returns-in_err-check : goal.returns-in_err-check
returns-in_err-check c =
    let o = c.check.ensures in
    let err = c.in_err-check.was in
    hands_on _ _ o err c.from_residual.ensures.1 ∙ sym (first_refuses _ _ tt (failed _ _ o err))

pub returns-then-nine : goal.returns-then-nine
unfolding unless first_broken
returns-then-nine c =
    let own : (refusal_of c.args.s.now).number ≡ 0 = passed _ _ c.check.ensures c.in_ok-check.was in
    rw (c.of_call.ensures, eq-eqb (refusal_of c.args.s.now).number 0 own, c.if-nine.true)

pub overflow_mul-tuples : goal.overflow_mul-tuples
overflow_mul-tuples c = omega (arith, c.requires c.if-nine.false)

pub returns-then-lent_broken : goal.returns-then-lent_broken
unfolding unless first_broken
returns-then-lent_broken c =
    let ten = sym (rw c.has_deformation.ensures at c.lent_broken.ensures) ∙ c.if-lent_broken.true in
    let own : (refusal_of c.args.s.now).number ≡ 0 = passed _ _ c.check.ensures c.in_ok-check.was in
    rw (c.of_call-then-lent_broken.ensures, eq-eqb (refusal_of c.args.s.now).number 0 own, c.if-nine.false, ten)

pub returns : goal.returns
unfolding unless first_broken
returns c =
    let ten = sym (rw c.has_deformation.ensures at c.lent_broken.ensures) ∙ c.if-lent_broken.false in
    let own : (refusal_of c.args.s.now).number ≡ 0 = passed _ _ c.check.ensures c.in_ok-check.was in
    rw (eq-eqb (refusal_of c.args.s.now).number 0 own, c.if-nine.false, ten)
