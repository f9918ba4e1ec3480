-- The index that velocity and mark are read at finds what the step's own index finds (`lent_at`).
-- Assumes nothing.
use Prim.Native.Nat.{◌+◌}
use native.Mathlib.Omega.{arith}
use Rattle.deformation_columns.proofs.Beyond.{lent_at}
use Rattle.deformation_columns.proofs.LentFixStep.one.Goals as goal

pub returns : goal.returns
returns c =
    let own = c.args.self in
    let at = lent_at own.op own.inverse own.velocities.now own.marks.now (omega (arith, c.well_formed)) (omega (arith, c.well_formed)) (own.first + c.args.i) _ c.saturating_add.ensures in
    rw (c.velocity_at-velocity.ensures, c.mark_at-mark.ensures, c.lent_from-k.ensures.0, at.0, at.1) at c.moved-r.ensures
