-- The lengths that `mend` and `answer` give lie within their rooms. Assumes nothing.
use mathlib.Core.Path.{sym}
use lib.Seq.{length-take-le}
use Rattle.text.proofs.Laws.{place_within}
use Rattle.sheet_rescue.proofs.main.Goals as goal

pub slice_bounds-write_all-end : goal.slice_bounds-write_all-end
slice_bounds-write_all-end c = sym (length-take-le _ _ c.mend-m.ensures.1.0)

pub slice_bounds-room-end : goal.slice_bounds-room-end
slice_bounds-room-end c = place_within _ _ c.answer-m.ensures

pub slice_bounds-write_all-end-else-has_word : goal.slice_bounds-write_all-end-else-has_word
slice_bounds-write_all-end-else-has_word c = sym (length-take-le _ _ (place_within _ _ c.answer-m.ensures))
