-- Where the list has four numbers for each row (`fits_told`), all are copied (`into_columns`); else
-- nothing is. Assumes nothing.
use mathlib.Core.Path.{sym, ◌∙◌}
use Rattle.columns.proofs.Laws.{fits_told}
use Rattle.columns.proofs.to_columns.Goals as goal

pub into_columns-requires : goal.into_columns-requires
into_columns-requires c = fits_told _ _ _ _ _ (sym c.fits.ensures ∙ c.if-fits.true)

pub returns-then-fits : goal.returns-then-fits
returns-then-fits c = rw (sym c.fits.ensures ∙ c.if-fits.true) c.into_columns.ensures

pub returns-else-fits : goal.returns-else-fits
returns-else-fits c = rw (sym c.fits.ensures ∙ c.if-fits.false)
