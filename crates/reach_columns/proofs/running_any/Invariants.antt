-- Invariant: n of the rows before i meet it, and the run reaches row i in the state that is carried
-- (`Along`); met is what R at the last time says; i is at most the length. A turn keeps met at an
-- equal time (`seen-again`) and asks anew otherwise (`seen-anew`), which is what the definition
-- says of the row (`running_met`). Assumes nothing.
use Prim.Native.Nat.{◌≤◌}
use mathlib.Core.Path.{◌≡◌}
use lib.ListN.{length}
use Rattle.helmert.specs.Turns.{helmert_turns}
use Rattle.columns.specs.Columns.{flat_of}
use Rattle.reach.specs.Met.{meeting_of, helmert_met}
use Rattle.reach.proofs.Modes.{out_at}
use Rattle.reach_columns.proofs.Along.{Along}
use Rattle.reach_columns.proofs.running_any.Given as goal

abbrev pub invariant-loop-i : goal.invariant-loop-i
invariant-loop-i l =
    Along (meeting_of (helmert_met l.shift) (helmert_turns l.inverse l.shift)) l.initial.state (flat_of l.x l.y l.z l.t) l.i l.state l.n × (l.met ≡ out_at l.shift l.state.last) × (l.i ≤ length l.t)
