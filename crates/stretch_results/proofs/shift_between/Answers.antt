-- Where the columns fit together and have such rows (`rows-beside-told`), `rows_between` writes
-- them; else nothing is written. Assumes nothing.
use mathlib.Core.Path.{refl}
use Rattle.columns.specs.Columns.{columns}
use Rattle.stretch.specs.KeptColumns.{rows_beside_of}
use Rattle.stretch.proofs.Fits.{rows-beside-told, where-true, where-false}
use Rattle.stretch_results.proofs.shift_between.Goals as goal

pub rows_between-requires : goal.rows_between-requires
unfolding rows_beside_of
rows_between-requires c =
    let a = c.args in
    rows-beside-told (columns a.x.now a.y.now a.z.now a.t.now) (columns a.rx.now a.ry.now a.rz.now a.rt.now) a.start a.end (rw (c.of_rows.ensures, c.of_rows-2.ensures) at c.if-of_rows-start.true)

pub returns-then-of_rows-start : goal.returns-then-of_rows-start
unfolding rows_beside_of
returns-then-of_rows-start c = where-true (rw (c.of_rows.ensures, c.of_rows-2.ensures) at c.if-of_rows-start.true) c.rows_between.ensures

pub returns-else-of_rows-start : goal.returns-else-of_rows-start
unfolding rows_beside_of
returns-else-of_rows-start c = where-false (rw (c.of_rows.ensures, c.of_rows-2.ensures) at c.if-of_rows-start.false) refl
