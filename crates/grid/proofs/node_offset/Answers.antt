-- A row up to 64 times a count up to 64 is at most 4,096, so nothing overflows. Assumes nothing.
use Rattle.std.proofs.Common.{◌*◌, ◌≤◌, mul-le-mul, arith, rules}
use Rattle.grid.proofs.node_offset.Goals as goal

pub overflow_mul-result : goal.overflow_mul-result
overflow_mul-result c = let h : c.args.i * c.wide.result ≤ 64 * 64 = mul-le-mul {n₂ = 64} {m₂ = 64} (search rules) (search rules) in omega (arith, h)

pub overflow_add-result : goal.overflow_add-result
overflow_add-result c = let h : c.args.i * c.wide.result ≤ 64 * 64 = mul-le-mul {n₂ = 64} {m₂ = 64} (search rules) (search rules) in omega (arith, h)

pub overflow_mul-result-2 : goal.overflow_mul-result-2
overflow_mul-result-2 c = let h : c.args.i * c.wide.result ≤ 64 * 64 = mul-le-mul {n₂ = 64} {m₂ = 64} (search rules) (search rules) in omega (arith, h)

pub overflow_add-result-2 : goal.overflow_add-result-2
overflow_add-result-2 c = let h : c.args.i * c.wide.result ≤ 64 * 64 = mul-le-mul {n₂ = 64} {m₂ = 64} (search rules) (search rules) in omega (arith, h)

pub returns : goal.returns
returns c = let h : c.args.i * c.wide.result ≤ 64 * 64 = mul-le-mul {n₂ = 64} {m₂ = 64} (search rules) (search rules) in (rw c.wide.ensures.0, omega (arith, h))
