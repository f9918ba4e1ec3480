-- One case for each mode, which tells of the definition's tests (`runs_told`, `owns_told`). Calls are
-- replaced by what they ensure; the definition is left. Assumes nothing.
use mathlib.Core.Path.{refl, sym, ◌∙◌}
use Rattle.helmert.specs.Modes.{step_of}
use Rattle.helmert.proofs.Laws.{runs_told, owns_told}
use Rattle.helmert.proofs.step.Goals as goal

pub returns-in-Running : goal.returns-in-Running
unfolding step_of
returns-in-Running c = rw (c.running.ensures, runs_told c.args.shift (sym c.mode.ensures ∙ c.in-Running.is))

pub returns-in-OwnEpoch : goal.returns-in-OwnEpoch
unfolding step_of
returns-in-OwnEpoch c =
    let e = sym c.mode.ensures ∙ c.in-OwnEpoch.is in
    rw (c.own_epoch_step.ensures, runs_told c.args.shift e, owns_told c.args.shift e refl)

pub returns-in-Still : goal.returns-in-Still
unfolding step_of
returns-in-Still c =
    let e = sym c.mode.ensures ∙ c.in-Still.is in
    rw (c.fixed_step.ensures, runs_told c.args.shift e, owns_told c.args.shift e refl)
