-- Invariant: q² is at most a, and a is below (q + bit)²; so the root is q or above, and below
-- q + bit, which is at most 2 ^ 27. A turn takes half off bit and adds it to q where the square of
-- the sum is at most a, which leaves q + bit as it was. Where the square is above a, the root lies
-- below the sum and so below q plus the new bit, which is no less than that half (`sq_mono`). At
-- bit = 1 the whole part of the root is q. The measure is bit. Assumes nothing.
use Rattle.std.proofs.Common.{◌+◌, ◌*◌, ◌<◌, ◌≤◌}
use Rattle.root.proofs.whole.Given as goal

abbrev pub invariant-loop-bit : goal.invariant-loop-bit
invariant-loop-bit l = (l.q * l.q ≤ l.a) × (l.a < (l.q + l.bit) * (l.q + l.bit)) × (l.q + l.bit ≤ 134217728) × (1 ≤ l.bit)

abbrev pub decreases-loop-bit : goal.decreases-loop-bit
decreases-loop-bit l = l.bit
