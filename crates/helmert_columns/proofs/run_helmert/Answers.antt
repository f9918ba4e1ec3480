-- Columns of one length go by the mode. Unequal columns stand for no tuple (`flat-uneven`), of which
-- the list, the state and the count are none, the state before and 0. Assumes nothing.
use mathlib.Core.Path.{refl, sym, ◌∙◌}
use Rattle.columns.proofs.Laws.{level_told, flat-uneven}
use Rattle.helmert_columns.proofs.run_helmert.Goals as goal

pub in_mode-requires : goal.in_mode-requires
in_mode-requires c = level_told _ _ _ _ (sym c.level.ensures ∙ c.if-level.true)

pub returns-then-level : goal.returns-then-level
returns-then-level c = c.in_mode.ensures

pub returns : goal.returns
returns c = rw (flat-uneven _ _ _ _ (sym c.level.ensures ∙ c.if-level.false)) (refl, refl, refl)
