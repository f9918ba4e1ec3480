-- Invariant: n is the number of the list's first i numbers whose bits differ from the words told
-- (`differing_of`), and so at most i. Assumes nothing.
use Rattle.std.proofs.Common.{◌≡◌, ℕ, ◌+◌, ◌*◌, ◌≤◌, length, get_or}
use lib.Ieee.{nan, binary64, to_bits}
use Rattle.words.specs.Words.{word64}
use Rattle.vectors.specs.Replay.{differing_of}
use Rattle.vectors.proofs.record.differing_numbers.Given as goal

abbrev pub invariant-loop-i : goal.invariant-loop-i
invariant-loop-i l = (l.i ≤ length l.list) × (l.n ≤ l.i) × (l.n ≡ differing_of (λ (i : ℕ). to_bits binary64 (get_or l.list i nan)) (λ (i : ℕ). word64 l.s (l.at + 8 * i)) l.i)
