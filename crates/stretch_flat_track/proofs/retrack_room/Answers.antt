-- The times and the track are the list's, and the columns' track is written anew. Assumes nothing.
use native.Mathlib.Omega.{arith}
use lib.ListN.{length}
use Rattle.columns.proofs.Laws.{in_columns}
use Rattle.stretch.proofs.Fits.{of_rows_test}
use Rattle.stretch_flat_track.proofs.retrack_room.Goals as goal

pub returns : goal.returns
returns c =
    let a = c.args in
    let into = in_columns a.track.now a.kx.now a.ky.now a.kz.now a.kt.now c.requires.0 (omega (arith, c.requires.1, c.requires.2, c.requires.3)) c.to_columns.ensures in
    let last = c.to_columns.new in
    rw (into, c.times.ensures) at (c.track_again.ensures.0 (of_rows_test (length c.times.new.t) last.x last.y last.z last.t (omega (arith, c.requires.0.0), omega (arith, c.requires.0.1), omega (arith, c.requires.0.2)) (omega (arith, c.requires.1))))
