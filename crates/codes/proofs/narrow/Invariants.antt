-- Invariant: `out` has sixteen elements, and its first i are the first i counts, narrowed. A turn
-- copies one count's lower bits (`narrow_at`), and so one element more is right (`take-suc-set`,
-- `take-suc`). At i = 16 the two arrays are equal (`take_all`). Assumes nothing.
use mathlib.Core.Path.{◌≡◌}
use Prim.Native.Nat.{◌≤◌}
use lib.ListN.{length, take}
use Rattle.codes.specs.Codes.{narrow_of}
use Rattle.codes.proofs.narrow.Given as goal

abbrev pub invariant-loop-i : goal.invariant-loop-i
invariant-loop-i l = (l.i ≤ 16) × ((length l.out ≡ 16) × (take l.i l.out ≡ take l.i (narrow_of l.counts)))
