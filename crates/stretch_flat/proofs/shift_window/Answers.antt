-- The converters and the step, one after another. Assumes nothing.
use native.Mathlib.Omega.{arith}
use mathlib.Core.Path.{◌∙◌}
use Rattle.columns.proofs.Laws.{in_columns, in_flat}
use Rattle.stretch_flat.proofs.shift_window.Goals as goal

pub returns : goal.returns
returns c =
    let a = c.args in
    let into = in_columns a.list.now a.x.now a.y.now a.z.now a.t.now c.requires.0 c.requires.1 c.to_columns.ensures in
    let ran = rw into at c.run_helmert-went.ensures in
    let went = c.run_helmert-went.new in
    let times = c.to_columns.new.t in (
      in_flat a.results.now went.x went.y went.z times (omega (arith, c.requires.0.0), omega (arith, c.requires.0.1), omega (arith, c.requires.0.2)) (omega (arith, c.requires.1, c.requires.2)) c.to_flat.ensures
          ∙ ran.0,
      ran.1,
    )
