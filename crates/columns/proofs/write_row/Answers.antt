-- Where a row stands at the index, it is written (`put_there`); else the flat list ends before it
-- (`no_row`), and nothing can be put there. Assumes nothing.
use mathlib.Core.Path.{sym, ◌∙◌}
use Rattle.lists.proofs.Places.{put_none}
use Rattle.columns.proofs.Laws.{row_told, no_row}
use Rattle.columns.proofs.write_row.Goals as goal

pub put_there-requires : goal.put_there-requires
put_there-requires c = row_told _ _ _ _ _ (sym c.has_row.ensures ∙ c.if-has_row.true)

pub returns-then-has_row : goal.returns-then-has_row
returns-then-has_row c = c.put_there.ensures

pub returns-else-has_row : goal.returns-else-has_row
returns-else-has_row c = sym (put_none _ _ _ (no_row _ _ _ _ _ (sym c.has_row.ensures ∙ c.if-has_row.false)))
