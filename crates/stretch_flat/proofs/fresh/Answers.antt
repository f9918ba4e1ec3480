-- One case for each way through the tests. Each by `fit`, `fresh-fits` and `fresh-unfit`, from what
-- the calls ensure. Assumes nothing.
use mathlib.Core.Path.{sym, ◌∙◌}
use Rattle.stretch_flat.proofs.Fit.{fit, fresh-fits, fresh-unfit}
use Rattle.stretch_flat.proofs.fresh.Goals as goal

pub run-requires : goal.run-requires
run-requires c =
    let f = fit _ _ _ (sym c.fits.ensures ∙ c.if-fits.true) in
    (f.whole, f.long-results, f.long-track)

pub returns-then-fits : goal.returns-then-fits
returns-then-fits c =
    c.run.ensures ∙ sym (fresh-fits _ _ _ (sym c.fits.ensures ∙ c.if-fits.true))

pub returns-else-fits : goal.returns-else-fits
returns-else-fits c = sym (fresh-unfit _ _ _ (sym c.fits.ensures ∙ c.if-fits.false))
