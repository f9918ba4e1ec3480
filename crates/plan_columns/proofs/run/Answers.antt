-- Columns of one length go through the step's loop. Unequal columns stand for no tuple
-- (`flat-uneven`), of which the list, the state and both numbers are none, the state before and 0.
-- Assumes nothing.
use mathlib.Core.Path.{refl, sym, ◌∙◌}
use Rattle.columns.proofs.Laws.{level_told, flat-uneven}
use Rattle.plan_columns.proofs.run.Goals as goal

pub run_level-requires : goal.run_level-requires
run_level-requires c = level_told _ _ _ _ (sym c.level.ensures ∙ c.if-level.true)

pub returns-then-level : goal.returns-then-level
returns-then-level c = c.run_level.ensures

pub returns-else-level : goal.returns-else-level
returns-else-level c = rw (flat-uneven _ _ _ _ (sym c.level.ensures ∙ c.if-level.false)) (refl, refl, refl, refl)
