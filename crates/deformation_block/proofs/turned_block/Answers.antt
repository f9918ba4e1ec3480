use borrow.Author.Rules.{rules}
use mathlib.Core.Path.{ap}
use Rattle.tuple.specs.declared.Tuple.{Tuple}
use Rattle.blocks.proofs.Over.{none_over, still, one_more_over, all_over}
use Rattle.deformation_block.proofs.turned_block.Goals as goal

pub loop-i-init : goal.loop-i-init
loop-i-init c = (none_over (search rules), none_over (search rules), none_over (search rules))

pub loop-i-preserved : goal.loop-i-preserved
loop-i-preserved c =
    let inv = c.loop-i.invariant in
    let e = rw (c.mul.ensures, c.lasting-d.ensures) at c.turned-r.ensures in
    let there = rw (still inv.0, still inv.1, still inv.2) at e in (
      one_more_over (search rules) (ap (λ (r : Tuple). r.x) there) inv.0,
      one_more_over (search rules) (ap (λ (r : Tuple). r.y) there) inv.1,
      one_more_over (search rules) (ap (λ (r : Tuple). r.z) there) inv.2,
    )

pub returns : goal.returns
returns c =
    let inv = c.loop-i.invariant in
    (all_over (search rules) inv.0, all_over (search rules) inv.1, all_over (search rules) inv.2)
