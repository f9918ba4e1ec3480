-- Invariant: the first i numbers of the list, followed by those that the bytes from 8 i on give for
-- the rest of it, are the numbers that the bytes give for the whole list (`numbers_of`), and the
-- list keeps its length. A turn writes one number, which leaves the whole the same (`one_more`).
-- When i is the list's length, the list is the whole (`all_read`). Assumes nothing.
use mathlib.Core.Path.{◌≡◌}
use Prim.Native.Nat.{◌≤◌, ◌-◌, ◌*◌}
use mathlib.Core.List.{◌++◌}
use lib.ListN.{length, take, drop}
use Rattle.job.specs.Job.{numbers_of}
use Rattle.job.proofs.numbers.Given as goal

abbrev pub invariant-loop-i : goal.invariant-loop-i
invariant-loop-i l = (l.i ≤ length l.initial.list) × (length l.list ≡ length l.initial.list) × (take l.i l.list ++ numbers_of (length l.initial.list - l.i) (drop (8 * l.i) l.bytes) ≡ numbers_of (length l.initial.list) l.bytes)
