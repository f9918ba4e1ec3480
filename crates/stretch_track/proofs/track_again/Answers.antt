-- Where the track has one row for each time (`of_rows_told`), `track_until` writes it; else nothing
-- is written. Assumes nothing.
use mathlib.Core.Path.{refl, sym, ◌∙◌}
use lib.ListN.{length}
use Rattle.stretch.proofs.Fits.{of_rows_told, where-true, where-false}
use Rattle.stretch_track.proofs.track_again.Goals as goal

pub track_until-requires : goal.track_until-requires
track_until-requires c =
    let a = c.args in
    of_rows_told (length a.t.now) a.kx.now a.ky.now a.kz.now a.kt.now (sym c.of_rows.ensures ∙ c.if-of_rows.true)

pub returns-then-of_rows : goal.returns-then-of_rows
returns-then-of_rows c = where-true (sym c.of_rows.ensures ∙ c.if-of_rows.true) c.track_until.ensures

pub returns : goal.returns
returns c = where-false (sym c.of_rows.ensures ∙ c.if-of_rows.false) (refl, refl, refl, refl)
