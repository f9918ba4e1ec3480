-- Calls are replaced by what they ensure; the definition is left. Assumes nothing.
use mathlib.Core.Path.{◌∙◌}
use Rattle.stretch.specs.Kept.{corrected_of}
use Rattle.stretch_flat.proofs.put_and_redo.Goals as goal

pub returns : goal.returns
unfolding corrected_of
returns c = c.redo.ensures ∙ rw (c.before-from.ensures, c.write4.ensures)
