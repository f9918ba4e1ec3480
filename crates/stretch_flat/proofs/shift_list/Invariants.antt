-- Invariant: what is written before fix i, and the run of the rest from the current state, are the
-- run of the list (`Shifting`). A window joins by `shifting-on`; at the end the results are complete
-- (`shifting-end`). Assumes nothing.
use Prim.Native.Nat.{◌*◌}
use mathlib.Core.Path.{◌≡◌}
use lib.ListN.{length}
use Rattle.stretch_flat.proofs.Shifting.{Shifting}
use Rattle.stretch_flat.proofs.shift_list.Given as goal

abbrev pub invariant-loop-i : goal.invariant-loop-i
invariant-loop-i l = (4 * l.count ≡ length l.list) × Shifting l.shift l.inverse l.initial.state l.list l.i l.state l.results
