-- The times, the track over them, and the converter, one after another. Assumes nothing.
use native.Mathlib.Omega.{arith}
use lib.ListN.{length}
use mathlib.Core.Path.{◌∙◌}
use Rattle.columns.proofs.Laws.{in_flat}
use Rattle.stretch.proofs.Fits.{of_rows_test}
use Rattle.stretch_flat_track.proofs.track_window.Goals as goal

pub returns : goal.returns
returns c =
    let read = c.times.ensures in
    let last = c.track_all-state.new in
    let made = rw read at (c.track_all-state.ensures.0 (of_rows_test (length c.times.new.t) c.args.kx.now c.args.ky.now c.args.kz.now c.args.kt.now c.requires.0 (omega (arith, c.requires.1)))) in (
      in_flat c.args.track.now last.kx last.ky last.kz last.kt (omega (arith, c.requires.0.0), omega (arith, c.requires.0.1), omega (arith, c.requires.0.2)) (omega (arith, c.requires.1, c.requires.2, c.requires.3)) c.to_flat.ensures
          ∙ made.0,
      made.1,
    )
