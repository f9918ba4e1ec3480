-- Invariant: a * 4 ^ i is q² + r with r at most 2 q, so that q is the whole part of its root; and q
-- is positive and below 2 ^ (27 + i), which keeps every product within 64 bits. At i = 0 this is
-- what `whole` promises. A turn multiplies a * 4 ^ i, q² and r by four (`pow_step`) and adds one to
-- q where the remainder then exceeds 2 q (`sq_one`). At i = 26 the number is a * 2 ^ 52, and the
-- remainder tells whether q or q + 1 is nearest to its root (`nearest_root_lem`). Here i is the
-- loop's counter. Assumes nothing.
use Rattle.std.proofs.Common.{◌≡◌, ◌+◌, ◌*◌, ◌^◌, ◌<◌, ◌≤◌}
use Rattle.root.proofs.by_digits.Given as goal

abbrev pub invariant-loop : goal.invariant-loop
invariant-loop l = (l.a * (2 ^ l.counter * 2 ^ l.counter) ≡ l.q * l.q + l.r) × (l.r ≤ 2 * l.q) × (l.q < 134217728 * 2 ^ l.counter) × (1 ≤ l.q)
