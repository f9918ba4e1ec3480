-- A run or a refusal, by which variant the shift gave (`told-run`, `told-refused`). Assumes nothing.
use mathlib.Core.Path.{ap, ◌∙◌}
use Rattle.text.specs.Text.{appended}
use Rattle.answer.proofs.Laws.{told-run, told-refused}
use Rattle.answer.proofs.told.Goals as goal

pub returns-in-Ok : goal.returns-in-Ok
returns-in-Ok c = c.ran.ensures ∙ ap (appended _) (told-run _ c.shift.ensures.0 c.in-Ok.is c.shift.ensures.1 c.step_count.ensures.0 c.counts-counts.ensures c.mets-mets.ensures)

pub returns-in-Err : goal.returns-in-Err
returns-in-Err c = c.refused.ensures ∙ ap (appended _) (told-refused _ c.shift.ensures.0 _ c.in-Err.is)
