-- Invariant: the track before i, followed by the track of the later times from the current state,
-- is the track of all (`Tracking`). A turn moves the state on and writes it (`tracking-fix`); at
-- the end the track is complete (`tracking-list`, `tracking-state`). Assumes nothing.
use mathlib.Core.Path.{◌≡◌}
use lib.ListN.{length}
use Rattle.columns.specs.Columns.{Level, flat_of}
use Rattle.stretch.proofs.Track.{Tracking}
use Rattle.stretch_track.proofs.track_rows.Given as goal

abbrev pub invariant-loop-i : goal.invariant-loop-i
invariant-loop-i l = Level l.kx l.ky l.kz l.kt × (length l.kx ≡ length l.t) × Tracking l.shift l.initial.state l.t l.i l.state (flat_of l.kx l.ky l.kz l.kt)
