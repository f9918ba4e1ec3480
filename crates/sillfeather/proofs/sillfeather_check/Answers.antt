-- The word of what `check` answers. Assumes nothing.
use mathlib.Core.Path.{◌∙◌}
use Rattle.codes.proofs.Clear.{answered, clear_sheet}
use Rattle.sillfeather.proofs.sillfeather_check.Goals as goal

pub returns : goal.returns
returns c = c.answer.ensures ∙ answered _ (clear_sheet _) c.check.ensures
