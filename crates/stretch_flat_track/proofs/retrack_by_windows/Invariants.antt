-- Invariant: the fixes tracked anew before i, with what is left to track from the current state, are
-- the whole of it (`Retracking`). A window in which the states do not meet brings the loop on
-- (`retracking-window`); where they meet, nothing is left (`retracking-window-met`). At the end every
-- fix is tracked anew (`retracking-end`). Assumes nothing.
use Prim.Native.Nat.{◌*◌}
use mathlib.Core.Path.{◌≡◌}
use lib.ListN.{length}
use Rattle.stretch.proofs.Track.{Retracking}
use Rattle.stretch_flat_track.proofs.Windows.{times_of}
use Rattle.stretch_flat_track.proofs.retrack_by_windows.Given as goal

abbrev pub invariant-loop-i : goal.invariant-loop-i
invariant-loop-i l = (4 * l.count ≡ length l.list) × (length l.track ≡ length l.list) × Retracking l.shift l.initial.state (times_of l.list) l.initial.track l.i l.state l.track
