-- Invariant: m * 2 ^ p is b * 2 ^ 1074, m has at most 53 digits, and it is at least 2 ^ (1074 - p).
-- A turn doubles m and takes one from p, which keeps the product (`halve`) and the bound
-- (`double_pow`). The bound also keeps p above 1021 (`few`), so that p can be lowered. At the end m
-- has 53 digits, and `split` makes of m * 2 ^ p the contract's a * 2 ^ 52 * 4 ^ k. The measure is
-- p. Assumes nothing.
use Rattle.std.proofs.Common.{◌≡◌, ◌-◌, ◌*◌, ◌^◌, ◌<◌, ◌≤◌}
use Rattle.root.proofs.subnormal.Given as goal

abbrev pub invariant-loop-m : goal.invariant-loop-m
invariant-loop-m l = (l.m * 2 ^ l.p ≡ l.b * 2 ^ 1074) × (l.m < 9007199254740992) × (l.p ≤ 1074) × (2 ^ (1074 - l.p) ≤ l.m)

abbrev pub decreases-loop-m : goal.decreases-loop-m
decreases-loop-m l = l.p
