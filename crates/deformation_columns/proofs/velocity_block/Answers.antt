use borrow.Author.Rules.{rules}
use mathlib.Core.Path.{refl, ap}
use Rattle.blocks.proofs.Laws.{none_filled, one_more, all_filled}
use Rattle.deformation.specs.declared.Velocity.{Velocity}
use Rattle.deformation_columns.proofs.velocity_block.Goals as goal

pub loop-j-init : goal.loop-j-init
loop-j-init c = (none_filled refl, none_filled refl, none_filled refl)

pub loop-j-preserved : goal.loop-j-preserved
loop-j-preserved c =
    let e = c.velocity_at-v.ensures in
    let u = c.loop-j.invariant in
    (one_more (search rules) (ap (λ (v : Velocity). v.east) e) u.0, one_more (search rules) (ap (λ (v : Velocity). v.north) e) u.1, one_more (search rules) (ap (λ (v : Velocity). v.up) e) u.2)

pub returns : goal.returns
returns c = let u = c.loop-j.invariant in (all_filled (search rules) u.0, all_filled (search rules) u.1, all_filled (search rules) u.2)
