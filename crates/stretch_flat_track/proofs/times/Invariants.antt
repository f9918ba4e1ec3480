-- Invariant: the times are as long as the list has fixes, and equal to its times before i
-- (`Copied`). A turn reads one (`time_there`). Assumes nothing.
use Prim.Native.Nat.{◌*◌}
use mathlib.Core.Path.{◌≡◌}
use lib.ListN.{length}
use Rattle.stretch.proofs.Copied.{Copied}
use Rattle.stretch_flat_track.proofs.Windows.{times_of}
use Rattle.stretch_flat_track.proofs.times.Given as goal

abbrev pub invariant-loop-i : goal.invariant-loop-i
invariant-loop-i l = (length l.list ≡ 4 * length l.t) × Copied (times_of l.list) l.i l.t
