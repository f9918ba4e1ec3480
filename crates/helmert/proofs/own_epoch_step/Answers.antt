-- Calls are replaced by what they ensure; what is left is `own_epoch_anyway`: the definition, with
-- no test for a missing time. Assumes nothing.
use Rattle.helmert.proofs.Laws.{own_epoch_anyway}
use Rattle.helmert.proofs.own_epoch_step.Goals as goal

pub returns : goal.returns
returns c =
    rw (
      own_epoch_anyway _ _ _,
      c.shifted.ensures,
      c.scale_at.ensures,
      c.rotation_at.ensures,
      c.grown-t.ensures,
    )
