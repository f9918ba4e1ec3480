-- Calls are replaced by what they ensure; the definition is left. Assumes nothing.
use mathlib.Core.Path.{◌∙◌}
use Rattle.sillfeather.proofs.sillfeather_add_helmert.Goals as goal

pub returns : goal.returns
returns c = c.add.ensures ∙ rw c.helmert_of.ensures
