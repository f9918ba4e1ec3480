-- By `moved-made`, from what the calls ensure: the index that the blocks are filled from finds what
-- the step's own index finds (`lent_there`). Assumes nothing.
use Prim.Native.Nat.{ℕ, ◌+◌}
use native.Mathlib.Omega.{arith}
use mathlib.Core.Path.{ap}
use Rattle.blocks.proofs.Laws.{told}
use Rattle.deformation.specs.declared.Velocity.{Velocity}
use Rattle.deformation_columns.proofs.Beyond.{lent_there}
use Rattle.deformation_columns.proofs.Sixteen.{moved-made}
use Rattle.deformation_columns.proofs.LentFixStep.sixteen.Goals as goal

pub returns : goal.returns
returns c =
    let a = c.args in
    let own = a.self in
    let s = c.place_block.ensures in
    let index = c.lent_from-k.ensures.0 in
    let v = rw index at c.velocity_block.ensures in
    let m = rw index at c.mark_block.ensures in
    let there = λ (j : ℕ). lent_there own.op own.inverse own.velocities.now own.marks.now (omega (arith, c.well_formed)) (omega (arith, c.well_formed)) (own.first + a.i) _ j c.saturating_add.ensures in
    moved-made own.velocities.now own.marks.now own.first a.i
    (told (λ j h. ap (λ (w : Velocity). w.east) (there j).0) v.0, told (λ j h. ap (λ (w : Velocity). w.north) (there j).0) v.1, told (λ j h. ap (λ (w : Velocity). w.up) (there j).0) v.2)
    (told (λ j h. (there j).1) m)
    own.op own.inverse a.x.now a.y.now a.z.now a.t.now s.0 s.1 c.moved_block-n.ensures c.met_block.ensures
