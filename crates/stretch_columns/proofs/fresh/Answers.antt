-- Where the columns are of one length (`all_level_told`), the step over a copy of the list and the
-- track over its times are the fresh run (`fresh-columns`, `fresh_kept`); else nothing is written
-- (`fresh-left`). Assumes nothing.
use Prim.Native.Nat.{ℕ, ◌*◌}
use native.Mathlib.Omega.{arith}
use mathlib.Core.Path.{◌≡◌, sym, ap, ◌∙◌}
use mathlib.Core.Bool.{true}
use lib.ListN.{length}
use Rattle.columns.specs.Columns.{columns, flat_of}
use Rattle.columns.proofs.Laws.{flat-length}
use Rattle.stretch.specs.KeptColumns.{kept_columns, all_level_of}
use Rattle.stretch.proofs.Fits.{all_level_told, rows-beside, of_rows_test}
use Rattle.stretch_columns.proofs.Both.{fresh-columns, fresh-left, fresh_kept}
use Rattle.stretch_columns.proofs.fresh.Goals as goal

pub returns-then-level : goal.returns-then-level
unfolding all_level_of
returns-then-level c =
    let a = c.args in
    let old = kept_columns (columns a.x.now a.y.now a.z.now a.t.now) (columns a.rx.now a.ry.now a.rz.now a.rt.now) (columns a.kx.now a.ky.now a.kz.now a.kt.now) in
    let told : all_level_of old ≡ true = sym c.all_level-level.ensures ∙ c.if-level.true in
    let level = all_level_told old told in
    let start = c.start-start.ensures in
    let long = flat-length a.rx.now a.ry.now a.rz.now a.rt.now level.1 in
    let beside = rows-beside old.list old.results 0 (length a.x.now) level.0 level.1 level.3 (omega arith) (omega arith) in
    let rows = of_rows_test (length a.t.now) a.kx.now a.ky.now a.kz.now a.kt.now level.2 (level.4 ∙ sym level.0.2) in
    let made = fresh-columns a.shift a.inverse a.x.now a.y.now a.z.now a.t.now level.0 (flat_of a.rx.now a.ry.now a.rz.now a.rt.now) (long ∙ ap (λ (n : ℕ). 4 * n) level.3) (rw start at (c.shift_between.ensures.0 beside)) (rw start at (c.track_all.ensures.0 rows).0) in
    let r = c.shift_between.new in
    let k = c.track_all.new in
    fresh_kept a.shift a.inverse old r.rx r.ry r.rz r.rt k.kx k.ky k.kz k.kt told
    (omega (arith, level.1.0), omega (arith, level.1.1), omega (arith, level.1.2))
    (omega (arith, level.2.0), omega (arith, level.2.1), omega (arith, level.2.2))
    made

pub returns-else-level : goal.returns-else-level
unfolding all_level_of
returns-else-level c =
    let a = c.args in
    fresh-left a.shift a.inverse (kept_columns (columns a.x.now a.y.now a.z.now a.t.now) (columns a.rx.now a.ry.now a.rz.now a.rt.now) (columns a.kx.now a.ky.now a.kz.now a.kt.now)) (sym c.all_level-level.ensures ∙ c.if-level.false)
