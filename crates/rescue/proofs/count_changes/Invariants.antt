-- Invariant: `changed` is how many of the first i words differ (`changes_in`). A turn adds the word
-- at 4 i (`counted_next`). At i = n all are counted. Assumes nothing.
use mathlib.Core.Path.{◌≡◌}
use Prim.Native.Nat.{◌≤◌}
use lib.ListN.{length}
use Rattle.rescue.specs.Changes.{changes_in}
use Rattle.rescue.proofs.count_changes.Given as goal

abbrev pub invariant-loop-i : goal.invariant-loop-i
invariant-loop-i l = (l.i ≤ l.n) × ((l.changed ≤ l.i) × (l.changed ≡ length (changes_in l.s l.r l.i)))
