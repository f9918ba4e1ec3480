-- By `place_within`, from what the calls ensure. Assumes nothing.
use mathlib.Core.Path.{sym}
use lib.Seq.{length-take-le}
use Rattle.text.proofs.Laws.{place_within}
use Rattle.shift_grid.proofs.main.Goals as goal

pub slice_bounds-room-end : goal.slice_bounds-room-end
slice_bounds-room-end c = place_within _ _ c.answer_grid-m.ensures

pub slice_bounds-write_all-end : goal.slice_bounds-write_all-end
slice_bounds-write_all-end c = sym (length-take-le _ _ (place_within _ _ c.answer_grid-m.ensures))
