-- Invariant: what is written before fix i, and the track of the later times from the current state,
-- are the track of all (`Tracking`). A window joins by `tracking-window`; at the end the track is
-- complete (`tracking-list`). Assumes nothing.
use Prim.Native.Nat.{◌*◌}
use mathlib.Core.Path.{◌≡◌}
use lib.ListN.{length}
use Rattle.stretch.proofs.Track.{Tracking}
use Rattle.stretch_flat_track.proofs.Windows.{times_of}
use Rattle.stretch_flat_track.proofs.track_by_windows.Given as goal

abbrev pub invariant-loop-i : goal.invariant-loop-i
invariant-loop-i l = (4 * l.count ≡ length l.list) × (length l.track ≡ length l.list) × Tracking l.shift l.initial.state (times_of l.list) l.i l.state l.track
