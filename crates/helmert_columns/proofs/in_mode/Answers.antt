-- One case for each mode. The list, the state and the count of each are those of the step's own
-- definition (`running-list`, `own-epoch-list`, `still-list` and their like). Assumes nothing.
use mathlib.Core.Path.{◌≡◌, refl, sym, ◌∙◌}
use mathlib.Core.Bool.{true, false}
use Rattle.columns.specs.Columns.{flat_of}
use Rattle.helmert.specs.Modes.{is_running_of, is_own_epoch_of}
use Rattle.helmert.proofs.Laws.{runs_told, owns_told}
use Rattle.helmert_columns.proofs.Laws.{running-list, running-state, running-rows, own-epoch-list, still-list, still-state, every-row, timed-rows}
use Rattle.helmert_columns.proofs.in_mode.Goals as goal

pub returns-in-Running : goal.returns-in-Running
returns-in-Running c =
    let a = c.args in
    let l = flat_of a.x.now a.y.now a.z.now a.t.now in
    let running : is_running_of a.shift ≡ true = runs_told a.shift (sym c.mode.ensures ∙ c.in-Running.is) in (
      c.run_running-state.ensures.0 ∙ running-list a.shift a.inverse running a.from l,
      c.run_running-state.ensures.1 ∙ running-state a.shift a.inverse running a.from l,
      running-rows a.shift a.inverse a.from _ _ _ _ c.requires running,
    )

pub returns-in-OwnEpoch : goal.returns-in-OwnEpoch
returns-in-OwnEpoch c =
    let a = c.args in
    let l = flat_of a.x.now a.y.now a.z.now a.t.now in
    let e = sym c.mode.ensures ∙ c.in-OwnEpoch.is in
    let running : is_running_of a.shift ≡ false = runs_told a.shift e in
    let own : is_own_epoch_of a.shift ≡ true = owns_told a.shift e refl in (
      c.run_own_epoch.ensures ∙ own-epoch-list a.shift a.inverse own a.from l,
      still-state a.shift a.inverse running a.from l,
      c.times_given.ensures ∙ timed-rows a.shift a.inverse a.from _ _ _ _ c.requires own,
    )

pub returns-in-Still : goal.returns-in-Still
returns-in-Still c =
    let a = c.args in
    let l = flat_of a.x.now a.y.now a.z.now a.t.now in
    let e = sym c.mode.ensures ∙ c.in-Still.is in
    let running : is_running_of a.shift ≡ false = runs_told a.shift e in
    let own : is_own_epoch_of a.shift ≡ false = owns_told a.shift e refl in (
      c.run_still.ensures ∙ still-list a.shift a.inverse running own a.from l,
      still-state a.shift a.inverse running a.from l,
      every-row a.shift a.inverse a.from _ _ _ _ c.requires own,
    )
