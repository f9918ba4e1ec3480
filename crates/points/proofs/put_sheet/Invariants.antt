-- Invariant: i is at most n, and the room is as long as at the start. The contract says nothing of
-- the bytes. The proof is that n, at most 17, and i, below n, are what `narrow` and `put_step` ask
-- for, and that no arithmetic overflows. Assumes nothing.
use mathlib.Core.Path.{◌≡◌}
use Prim.Native.Nat.{◌≤◌, ◌-◌}
use lib.ListN.{length}
use Rattle.points.proofs.put_sheet.Given as goal

abbrev pub invariant-loop-i : goal.invariant-loop-i
invariant-loop-i l = (l.i ≤ l.n) × (length l.s ≡ length l.initial.s)
