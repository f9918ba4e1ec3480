-- One case for each answer of the check. Calls are replaced by what they ensure; the definition is
-- left. Assumes nothing.
use mathlib.Core.Path.{sym, ◌∙◌}
use borrow.Author.Tests.{ne_eqb}
use Rattle.sheet.proofs.Unless.{passed, failed, at_err}
use Rattle.show.specs.Show.{show_text}
use Rattle.show.proofs.put_sheet.Goals as goal

pub returns-in-Ok : goal.returns-in-Ok
unfolding show_text
returns-in-Ok c = rw (passed _ _ c.check.ensures c.in-Ok.is) c.put_accepted.ensures

pub returns-in-Err : goal.returns-in-Err
unfolding show_text
returns-in-Err c =
    let refusal = at_err _ _ _ (sym c.check.ensures ∙ c.in-Err.is) in
    rw (ne_eqb _ _ (failed _ _ c.check.ensures c.in-Err.is), refusal.1) c.put_refused.ensures
