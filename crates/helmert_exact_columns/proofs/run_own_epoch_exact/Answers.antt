-- The list that the step of both modes makes is, in own-epoch mode, the definition's (`own_list`).
-- Assumes nothing.
use mathlib.Core.Path.{◌∙◌}
use Rattle.columns.specs.Columns.{flat_of}
use Rattle.helmert.specs.Turns.{no_state}
use Rattle.helmert_exact_columns.proofs.Laws.{own_list}
use Rattle.helmert_exact_columns.proofs.run_own_epoch_exact.Goals as goal

pub returns : goal.returns
returns c =
    let a = c.args in
    c.run-last.ensures.0 ∙ own_list a.shift a.inverse 0 c.start-from.result no_state (flat_of a.x.now a.y.now a.z.now a.t.now)
