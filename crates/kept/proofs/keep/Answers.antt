-- A refused call hands on the refusal (`hands_on`) and leaves the lists (`keep-refused`); one that is
-- not is a fresh run, whose lists fit by the rules that passed (`fresh-fits`). Assumes nothing.
use mathlib.Core.Path.{sym, ◌∙◌}
use Rattle.sheet.proofs.Unless.{accepts, refuses, passed as not_refused, failed, hands_on}
use Rattle.stretch_flat.proofs.Fit.{fit_told, fresh-fits}
use Rattle.kept.specs.Entries.{keep_refusal_of}
use Rattle.kept.proofs.Answers.{passed, keep-refused, keep-done}
use Rattle.kept.proofs.keep.Goals as goal

pub returns-in_err-check : goal.returns-in_err-check
unfolding keep_refusal_of
returns-in_err-check c =
    let o = c.check.ensures in
    let none = failed _ _ o c.in_err-check.was in
    (hands_on _ _ o c.in_err-check.was c.from_residual.ensures.1 ∙ sym (refuses _ tt none), keep-refused _ _ _ none)

pub returns : goal.returns
unfolding keep_refusal_of
returns c =
    let none = not_refused _ _ c.check.ensures c.in_ok-check.was in
    let p = passed _ _ _ _ none in (
      sym (accepts _ tt none),
      keep-done _ _ _ none
          (c.fresh.ensures
          ∙ fresh-fits _ _ _ (fit_told _ _ _ p.whole p.long-results p.long-track)
          ∙ rw (c.step_in-step.ensures.0, c.step_in-step.ensures.1)),
    )
