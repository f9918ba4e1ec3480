-- Invariant: the fixes tracked anew before i, with what is left to track from the current state, are
-- the whole of it (`Retracking`). A turn writes the state after fix i; where it is not the kept one
-- the loop goes on (`retracking-fix`), and where it is, nothing is left (`retracking-fix-met`). At
-- the end every fix is tracked anew (`retracking-end`). Assumes nothing.
use mathlib.Core.Path.{◌≡◌}
use lib.ListN.{length}
use Rattle.columns.specs.Columns.{Level, flat_of}
use Rattle.stretch.proofs.Track.{Retracking}
use Rattle.stretch_track.proofs.track_until.Given as goal

abbrev pub invariant-loop-i : goal.invariant-loop-i
invariant-loop-i l =
    Level l.kx l.ky l.kz l.kt × (length l.kx ≡ length l.t) × Retracking l.shift l.initial.state l.t (flat_of l.initial.kx l.initial.ky l.initial.kz l.initial.kt) l.i l.state (flat_of l.kx l.ky l.kz l.kt)
