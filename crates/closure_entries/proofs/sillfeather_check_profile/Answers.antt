-- The word of what `check` answers. Assumes nothing.
use mathlib.Core.Path.{◌∙◌}
use Rattle.codes.proofs.Clear.{answered}
use Rattle.closure_entries.proofs.Telling.{clear_profile}
use Rattle.closure_entries.proofs.sillfeather_check_profile.Goals as goal

pub returns : goal.returns
returns c = c.answer.ensures ∙ answered _ (clear_profile _ _) c.check.ensures
