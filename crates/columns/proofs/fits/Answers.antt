-- One case for each way through the tests, which are the definition's, in its order. Assumes
-- nothing.
use borrow.Author.Rules.{rules}
use Rattle.columns.specs.Columns.{fits_of}
use Rattle.columns.proofs.fits.Goals as goal

pub returns-then-list-eq0 : goal.returns-then-list-eq0
unfolding fits_of
returns-then-list-eq0 c = search rules

pub returns-else-list-eq0 : goal.returns-else-list-eq0
unfolding fits_of
returns-else-list-eq0 c = search rules
