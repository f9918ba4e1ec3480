-- The columns have 512 rows each, and n is at most that. What is answered lies within the room.
-- Assumes nothing.
use mathlib.Core.Path.{sym}
use lib.Seq.{length-take-le}
use Rattle.text.proofs.Laws.{place_within}
use borrow.Author.Rules.{rules}
use Rattle.display.proofs.draw.Goals as goal

pub slice_bounds-shift-end : goal.slice_bounds-shift-end
slice_bounds-shift-end c = sym (length-take-le _ _ (search rules))

pub slice_bounds-shift-end-2 : goal.slice_bounds-shift-end-2
slice_bounds-shift-end-2 c = sym (length-take-le _ _ (search rules))

pub slice_bounds-shift-end-3 : goal.slice_bounds-shift-end-3
slice_bounds-shift-end-3 c = sym (length-take-le _ _ (search rules))

pub slice_bounds-shift-end-4 : goal.slice_bounds-shift-end-4
slice_bounds-shift-end-4 c = sym (length-take-le _ _ (search rules))

pub returns-in-Err : goal.returns-in-Err
returns-in-Err c = place_within _ _ c.refused.ensures
