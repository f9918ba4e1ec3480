-- The place that `put_seen` answers lies within the room. Assumes nothing.
use mathlib.Core.Path.{sym}
use lib.Seq.{length-take-le}
use Rattle.text.proofs.Laws.{place_within}
use Rattle.grid_show.proofs.tell_refusal.Goals as goal

pub slice_bounds-room-end : goal.slice_bounds-room-end
slice_bounds-room-end g c = place_within _ _ c.put_seen-m.ensures

pub slice_bounds-write_all-end : goal.slice_bounds-write_all-end
slice_bounds-write_all-end g c = sym (length-take-le _ _ (place_within _ _ c.put_seen-m.ensures))
