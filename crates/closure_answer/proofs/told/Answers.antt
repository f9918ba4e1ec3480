-- A page or a refusal, by which variant the closure from an empty report gave (`said_is`,
-- `told-page`, `told-refused`). Assumes nothing.
use mathlib.Core.Path.{ap, ◌∙◌}
use Rattle.text.specs.Text.{appended}
use Rattle.closure_answer.proofs.Parts.{said_is, told-refused, told-page}
use Rattle.closure_answer.proofs.told.Goals as goal

pub returns-in-Ok : goal.returns-in-Ok
returns-in-Ok c = c.put_page.ensures ∙ ap (appended _) (told-page _ _ (said_is _ _ _ _ _ _ c.empty-none.ensures c.closure.ensures.0) c.in-Ok.is (c.takes_angles-angles.ensures ∙ rw (c.kind_at.ensures, c.inverted_at.ensures)))

pub returns-in-Err : goal.returns-in-Err
returns-in-Err c = c.put_refused.ensures ∙ ap (appended _) (told-refused _ _ (said_is _ _ _ _ _ _ c.empty-none.ensures c.closure.ensures.0) c.in-Err.is)
