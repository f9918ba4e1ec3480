-- Invariant: the first j lanes hold T and dt after their rows, and the state is that after j rows.
-- Assumes nothing.
use Prim.Native.Nat.{◌≤◌}
use mathlib.Core.Path.{◌≡◌}
use Rattle.helmert_running_columns.specs.Lanes.{LanesTo, states_of}
use Rattle.helmert_running_columns.proofs.ahead.Given as goal

abbrev pub invariant-loop-j : goal.invariant-loop-j
invariant-loop-j l = LanesTo l.j l.shift l.initial.state l.t l.i l.tx l.ty l.tz l.d × (l.state ≡ states_of l.shift l.initial.state l.t l.i l.j) × (l.j ≤ 16)
