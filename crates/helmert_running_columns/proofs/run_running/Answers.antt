-- One case for each way. An exact shift is another crate's; of columns of one length each piece makes
-- the definition's list and state; unequal columns stand for no tuple (`flat-uneven`), and the run of
-- none is none. Assumes nothing.
use mathlib.Core.Path.{refl, sym, ◌∙◌}
use Rattle.columns.proofs.Laws.{level_told, flat-uneven}
use Rattle.helmert_running_columns.proofs.run_running.Goals as goal

pub returns-then-shift : goal.returns-then-shift
returns-then-shift c = c.run_exact.ensures

pub in_pieces-requires : goal.in_pieces-requires
in_pieces-requires c =
    (level_told _ _ _ _ (sym c.level.ensures ∙ c.if-level.true), c.if-shift.false)

pub returns-then-shift-2 : goal.returns-then-shift-2
returns-then-shift-2 c = c.in_pieces.ensures

pub one_by_one-requires : goal.one_by_one-requires
one_by_one-requires c =
    (level_told _ _ _ _ (sym c.level.ensures ∙ c.if-level.true), c.if-shift-2.false)

pub returns-then-level : goal.returns-then-level
returns-then-level c = c.one_by_one.ensures

pub returns : goal.returns
returns c = rw (flat-uneven _ _ _ _ (sym c.level.ensures ∙ c.if-level.false)) (refl, refl)
