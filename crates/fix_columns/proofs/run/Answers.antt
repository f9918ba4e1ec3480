-- Columns of one length go through `run_level`; others stand for no tuple (`flat-uneven`), so
-- nothing passes and nothing counts. Assumes nothing.
use mathlib.Core.Path.{sym, ◌∙◌}
use Rattle.columns.proofs.Laws.{level_told, flat-uneven}
use Rattle.fix_columns.proofs.run.Goals as goal

pub run_level-requires : goal.run_level-requires
run_level-requires g c = level_told _ _ _ _ (sym c.level.ensures ∙ c.if-level.true)

pub returns-then-level : goal.returns-then-level
returns-then-level g c = c.run_level.ensures

pub returns : goal.returns
returns g c = let e = flat-uneven _ _ _ _ (sym c.level.ensures ∙ c.if-level.false) in (rw e, rw e, rw e)
