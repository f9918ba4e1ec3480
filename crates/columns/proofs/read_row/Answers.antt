-- Where a row stands at the index, it is read (`there`); else the flat list ends before it
-- (`no_row`), and its tuple there is four NaNs. Assumes nothing.
use mathlib.Core.Path.{sym, ◌∙◌}
use Rattle.lists.proofs.Places.{none_there}
use Rattle.columns.proofs.Laws.{row_told, no_row}
use Rattle.columns.proofs.read_row.Goals as goal

pub there-requires : goal.there-requires
there-requires c = row_told _ _ _ _ _ (sym c.has_row.ensures ∙ c.if-has_row.true)

pub returns-then-has_row : goal.returns-then-has_row
returns-then-has_row c = c.there.ensures

pub returns-else-has_row : goal.returns-else-has_row
returns-else-has_row c = c.nan.ensures ∙ sym (none_there _ _ (no_row _ _ _ _ _ (sym c.has_row.ensures ∙ c.if-has_row.false)))
