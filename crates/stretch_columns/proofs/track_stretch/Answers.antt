-- The part from the index on is tracked anew, and stands after what was before it (`from-track`).
-- Assumes nothing.
use Prim.Native.Nat.{◌-◌}
use native.Mathlib.Omega.{arith}
use lib.ListN.{length, take, drop}
use Rattle.columns.specs.Columns.{flat_of}
use Rattle.stretch.specs.Kept.{before_of}
use Rattle.stretch.proofs.Fits.{of_rows_test}
use Rattle.stretch_columns.proofs.Later.{from-track, from-count, from_within}
use Rattle.stretch_columns.proofs.track_stretch.Goals as goal

pub returns : goal.returns
returns c =
    let a = c.args in
    let start = c.before-from.ensures in
    let from = before_of a.shift (flat_of a.kx.now a.ky.now a.kz.now a.kt.now) a.index in
    let last = c.track_again-again.new in
    let px = last.kx in
    let py = last.ky in
    let pz = last.kz in
    let pt = last.kt in
    let e = rw start at (c.track_again-again.ensures.0 (of_rows_test (length (take (length a.t.now - a.index) (drop a.index a.t.now))) (take (length a.kx.now - a.index) (drop a.index a.kx.now)) (take (length a.ky.now - a.index) (drop a.index a.ky.now)) (take (length a.kz.now - a.index) (drop a.index a.kz.now)) (take (length a.kt.now - a.index) (drop a.index a.kt.now)) (omega (arith, c.requires.0.0), omega (arith, c.requires.0.1), omega (arith, c.requires.0.2)) (omega (arith, c.requires.1)))) in (
      from-track a.shift from a.t.now a.kx.now a.ky.now a.kz.now a.kt.now c.requires.0 c.requires.1 a.index c.requires.2 px py pz pt (omega arith) (omega arith) (omega arith) (omega arith) e,
      from-count a.shift from a.t.now a.kx.now a.ky.now a.kz.now a.kt.now c.requires.0 c.requires.1 a.index c.requires.2 px py pz pt (omega arith) (omega arith) (omega arith) (omega arith) e,
      from_within a.shift from a.t.now a.kx.now a.ky.now a.kz.now a.kt.now c.requires.0 c.requires.1 a.index c.requires.2 px py pz pt (omega arith) (omega arith) (omega arith) (omega arith) e,
      start,
    )
