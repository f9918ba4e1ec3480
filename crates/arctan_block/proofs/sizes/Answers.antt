use borrow.Author.Rules.{rules}
use native.Mathlib.Omega.{arith}
use mathlib.Core.Path.{refl}
use Rattle.arctan_block.proofs.Blocks.{none_sized, one_more_sized, all_sized}
use Rattle.arctan_block.proofs.sizes.Goals as goal

pub loop-i-init : goal.loop-i-init
loop-i-init c = (none_sized refl refl refl refl, search rules)

pub overflow_add-n : goal.overflow_add-n
overflow_add-n c = let b = c.loop-i.invariant.0.bound in let d = c.sized-p.ensures.bound in omega (arith, b, d, c.loop-i-test.true)

pub loop-i-preserved : goal.loop-i-preserved
loop-i-preserved c = (one_more_sized (search rules) c.sized-p.ensures c.loop-i.invariant.0, search rules)

pub returns : goal.returns
returns c = all_sized (search rules) c.loop-i.invariant.1 c.loop-i.invariant.0
