-- Invariant: n is the number of the first i counts that differ from the words told (`differing_of`),
-- and so at most i. Assumes nothing.
use Rattle.std.proofs.Common.{◌≡◌, ℕ, ◌+◌, ◌*◌, ◌≤◌, get_or}
use Rattle.words.specs.Words.{word32}
use Rattle.vectors.specs.Replay.{differing_of}
use Rattle.vectors.proofs.record.differing_counts.Given as goal

abbrev pub invariant-loop-i : goal.invariant-loop-i
invariant-loop-i l = (l.i ≤ 16) × (l.n ≤ l.i) × (l.n ≡ differing_of (λ (i : ℕ). get_or l.counts i 0) (λ (i : ℕ). word32 l.s (l.at + 4 * i)) l.i)
