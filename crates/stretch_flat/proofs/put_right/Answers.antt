-- One case for each way through the tests. Each by `right_there`, `right-nowhere` and `fix-there`,
-- from what the calls ensure. Assumes nothing.
use mathlib.Core.Path.{sym, ◌∙◌}
use Rattle.stretch_flat.proofs.Fit.{right_there, right-nowhere, fix-there}
use Rattle.stretch_flat.proofs.put_right.Goals as goal

pub put_and_redo-requires : goal.put_and_redo-requires
put_and_redo-requires c =
    let h = fix-there _ _ _ _ (rw c.fits.ensures at c.if-fits-index.true) in
    (h.0.whole, h.1, h.0.long-results, h.0.long-track)

pub returns-then-fits-index : goal.returns-then-fits-index
returns-then-fits-index c =
    c.put_and_redo.ensures ∙ sym (right_there _ _ _ _ _ (rw c.fits.ensures at c.if-fits-index.true))

pub returns : goal.returns
returns c = sym (right-nowhere _ _ _ _ _ (rw c.fits.ensures at c.if-fits-index.false))
