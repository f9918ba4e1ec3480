-- What a correction makes is one outcome (`correct-refused`, `correct-refused-14`, `correct-done`); its
-- answer hands out the refusal, or how many fixes were redone. Assumes nothing.
use mathlib.Core.Path.{refl, sym, ap, ◌∙◌}
use Rattle.std.specs.Prelude.{Err}
use Rattle.sheet.specs.Rules.{of_call}
use Rattle.sheet.proofs.Order.{not_zero}
use Rattle.sheet.proofs.Unless.{accepts, refuses, passed as not_refused, failed, hands_on}
use Rattle.stretch_flat.proofs.Fit.{fit_told, right-fits}
use Rattle.kept.specs.Entries.{CorrectOutcome, keep_refusal_of, redone_in}
use Rattle.kept.proofs.Answers.{passed, below, correct-refused, correct-refused-14, correct-done}
use Rattle.kept.proofs.correct.Goals as goal

pub returns-in_err-check : goal.returns-in_err-check
unfolding keep_refusal_of
returns-in_err-check c =
    let o = c.check.ensures in
    let none = failed _ _ o c.in_err-check.was in
    let made = correct-refused _ _ _ _ _ refl none in
    (hands_on _ _ o c.in_err-check.was c.from_residual.ensures.1 ∙ sym (refuses _ 0 none) ∙ ap (λ (o : CorrectOutcome). redone_in o.answer) made, ap (λ (o : CorrectOutcome). o.kept) made)

pub returns-then-index_broken : goal.returns-then-index_broken
unfolding keep_refusal_of
returns-then-index_broken c =
    let none = not_refused _ _ c.check.ensures c.in_ok-check.was in
    let made = correct-refused-14 _ _ _ _ _ none (sym c.index_broken.ensures ∙ c.if-index_broken.true) in
    (ap Err c.of_call.ensures ∙ sym (refuses (of_call 14) 0 (not_zero 13)) ∙ ap (λ (o : CorrectOutcome). redone_in o.answer) made, ap (λ (o : CorrectOutcome). o.kept) made)

pub returns : goal.returns
unfolding keep_refusal_of
returns c =
    let none = not_refused _ _ c.check.ensures c.in_ok-check.was in
    let there = sym c.index_broken.ensures ∙ c.if-index_broken.false in
    let p = passed _ _ _ _ none in
    let made = correct-done _ _ _ _ _ refl none there
    (c.put_right-n.ensures
    ∙ right-fits _ _ _ _ _ (fit_told _ _ _ p.whole p.long-results p.long-track) (below _ _ there)
    ∙ rw (c.step_in-step.ensures.0, c.step_in-step.ensures.1)) in
    (sym (accepts _ _ none) ∙ ap (λ (o : CorrectOutcome). redone_in o.answer) made, ap (λ (o : CorrectOutcome). o.kept) made)
