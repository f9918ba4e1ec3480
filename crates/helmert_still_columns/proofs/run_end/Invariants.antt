-- Invariant: from i to the end reached so far every time is the last one. A turn is one time more
-- (`still-more`). Assumes nothing.
use Prim.Native.Nat.{ℕ, ◌≤◌, ◌<◌}
use mathlib.Core.Path.{◌≡◌}
use mathlib.Core.Bool.{false}
use lib.ListN.{length}
use lib.Ieee.{ne}
use Rattle.blocks.specs.Each.{at}
use Rattle.helmert_still_columns.proofs.run_end.Given as goal

abbrev pub invariant-loop-end : goal.invariant-loop-end
invariant-loop-end l = (l.i ≤ l.end) × (l.i ≤ length l.t → l.end ≤ length l.t) × ((k : ℕ) → l.i ≤ k → k < l.end → ne (at l.t k) l.last ≡ false)
