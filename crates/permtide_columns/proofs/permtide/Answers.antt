-- Columns of one length go through `permtide_level`; others stand for no tuple (`flat-uneven`), so
-- nothing passes. Assumes nothing.
use mathlib.Core.Path.{sym, ◌∙◌}
use Rattle.columns.proofs.Laws.{level_told, flat-uneven}
use Rattle.permtide_columns.proofs.permtide.Goals as goal

pub permtide_level-requires : goal.permtide_level-requires
permtide_level-requires c = level_told _ _ _ _ (sym c.level.ensures ∙ c.if-level.true)

pub returns-else-level : goal.returns-else-level
returns-else-level c = rw (flat-uneven _ _ _ _ (sym c.level.ensures ∙ c.if-level.false))
