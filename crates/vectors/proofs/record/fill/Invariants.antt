-- Invariant: the first i numbers of the list are those that the bytes hold from `at` on
-- (`numbers_of`), and the list keeps its length. Assumes nothing.
use Rattle.std.proofs.Common.{◌≡◌, ◌≤◌, length, take}
use Rattle.vectors.specs.Replay.{numbers_of}
use Rattle.vectors.proofs.record.fill.Given as goal

abbrev pub invariant-loop-i : goal.invariant-loop-i
invariant-loop-i l = (l.i ≤ length l.list) × (length l.list ≡ length l.initial.list) × (take l.i l.list ≡ numbers_of l.s l.at l.i)
