-- The product of two counts up to 64 is at most 4,096, so nothing overflows. Assumes nothing.
use native.Mathlib.Omega.{arith}
use native.Mathlib.Nat.{mul-le-mul}
use Prim.Native.Nat.{◌*◌, ◌≤◌}
use borrow.Author.Rules.{rules}
use Rattle.grid_rules.proofs.grid_length.Goals as goal

pub overflow_mul-result : goal.overflow_mul-result
overflow_mul-result c = let h : c.wide.result * c.wide-2.result ≤ 64 * 64 = mul-le-mul {n₂ = 64} {m₂ = 64} (search rules) (search rules) in omega (arith, h)

pub overflow_mul-result-2 : goal.overflow_mul-result-2
overflow_mul-result-2 c = let h : c.wide.result * c.wide-2.result ≤ 64 * 64 = mul-le-mul {n₂ = 64} {m₂ = 64} (search rules) (search rules) in omega (arith, h)

pub overflow_add-result : goal.overflow_add-result
overflow_add-result c = let h : c.wide.result * c.wide-2.result ≤ 64 * 64 = mul-le-mul {n₂ = 64} {m₂ = 64} (search rules) (search rules) in omega (arith, h)

pub returns : goal.returns
returns c = rw (c.wide-2.ensures.0, c.wide.ensures.0)
