-- Where the list has four numbers for each row (`fits_told`), all are copied (`into_flat`); else
-- nothing is. Assumes nothing.
use mathlib.Core.Path.{sym, ◌∙◌}
use Rattle.columns.proofs.Laws.{fits_told}
use Rattle.columns.proofs.to_flat.Goals as goal

pub into_flat-requires : goal.into_flat-requires
into_flat-requires c = fits_told _ _ _ _ _ (sym c.fits.ensures ∙ c.if-fits.true)

pub returns-then-fits : goal.returns-then-fits
returns-then-fits c = rw (sym c.fits.ensures ∙ c.if-fits.true) c.into_flat.ensures

pub returns-else-fits : goal.returns-else-fits
returns-else-fits c = rw (sym c.fits.ensures ∙ c.if-fits.false)
