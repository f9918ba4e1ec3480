-- Where the columns are of one length and a fix stands at the index (`fix-there`), the fix in the
-- list, the track written anew from it on, and the results of the stretch are the correction
-- (`redo-columns`, `right-put`); else nothing is written (`right-left`). Assumes nothing.
use Prim.Native.Nat.{◌+◌}
use native.Mathlib.Omega.{arith}
use mathlib.Core.Path.{◌≡◌, ◌∙◌}
use mathlib.Core.Bool.{true, ◌&&◌}
use lib.Dec.{ltb}
use lib.ListN.{length}
use Rattle.columns.specs.Columns.{columns, Level, flat_of}
use Rattle.stretch.specs.Kept.{before_of, corrected_of}
use Rattle.stretch.specs.KeptColumns.{kept_columns, all_level_of}
use Rattle.stretch.proofs.Fits.{fix-there, rows-beside}
use Rattle.stretch_columns.proofs.Both.{redo-columns, right-left, right-put}
use Rattle.stretch_columns.proofs.put_right.Goals as goal

pub track_stretch-stretch-requires : goal.track_stretch-stretch-requires
unfolding all_level_of
track_stretch-stretch-requires c =
    let a = c.args in
    let h = fix-there (kept_columns (columns a.x.now a.y.now a.z.now a.t.now) (columns a.rx.now a.ry.now a.rz.now a.rt.now) (columns a.kx.now a.ky.now a.kz.now a.kt.now)) a.index (rw c.all_level-level.ensures at c.if-level-index.true) in
    (h.0.2, omega (arith, h.0.4, h.0.0.2), omega (arith, h.1, h.0.0.2))

pub overflow_add-end : goal.overflow_add-end
overflow_add-end c = omega (arith, c.track_stretch-stretch.ensures.2, c)

pub returns-then-level-index : goal.returns-then-level-index
unfolding all_level_of corrected_of
returns-then-level-index c =
    let a = c.args in
    let old = kept_columns (columns a.x.now a.y.now a.z.now a.t.now) (columns a.rx.now a.ry.now a.rz.now a.rt.now) (columns a.kx.now a.ky.now a.kz.now a.kt.now) in
    let told : all_level_of old && ltb a.index (length a.x.now) ≡ true = rw c.all_level-level.ensures at c.if-level-index.true in
    let level = (fix-there old a.index told).0 in
    let w = c.write_row.new in
    let list : Level w.x w.y w.z w.t = (omega (arith, level.0.0), omega (arith, level.0.1), omega (arith, level.0.2)) in
    let results = flat_of a.rx.now a.ry.now a.rz.now a.rt.now in
    let track = flat_of a.kx.now a.ky.now a.kz.now a.kt.now in
    let again = c.track_stretch-stretch.ensures in
    let n = c.track_stretch-stretch.result.count in
    let beside = rows-beside (columns w.x w.y w.z w.t) old.results a.index (a.index + n) list level.1 (omega (arith, level.3)) (omega arith) (omega (arith, again.2, list.2)) in
    let r = c.shift_between.new in
    let k = c.track_stretch-stretch.new in
    right-put a.shift a.inverse old a.index a.fix w.x w.y w.z w.t r.rx r.ry r.rz r.rt k.kx k.ky k.kz k.kt told
    list
    (omega (arith, level.1.0), omega (arith, level.1.1), omega (arith, level.1.2))
    (omega (arith, level.2.0), omega (arith, level.2.1), omega (arith, level.2.2))
    (redo-columns a.shift a.inverse w.x w.y w.z w.t list (before_of a.shift track a.index) results track a.index again.0 again.1 again.2 (rw again.3 at (c.shift_between.ensures.0 beside)) ∙ rw c.write_row.ensures)

pub returns : goal.returns
unfolding all_level_of
returns c =
    let a = c.args in
    right-left a.shift a.inverse (kept_columns (columns a.x.now a.y.now a.z.now a.t.now) (columns a.rx.now a.ry.now a.rz.now a.rt.now) (columns a.kx.now a.ky.now a.kz.now a.kt.now)) a.index a.fix (rw c.all_level-level.ensures at c.if-level-index.false)
