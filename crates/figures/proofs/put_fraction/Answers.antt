-- One case for each way through the tests. Each by `then`, from what the calls ensure.
-- Assumes nothing.
use borrow.Author.Tests.{ne_eqb}
use Rattle.text.proofs.Laws.{then}
use Rattle.figures.specs.Figures.{fraction_text}
use Rattle.figures.proofs.put_fraction.Goals as goal

pub returns-then-k-eq0 : goal.returns-then-k-eq0
unfolding fraction_text
returns-then-k-eq0 c = rw c.if-k-eq0.true c.put_bytes.ensures

pub returns : goal.returns
unfolding fraction_text
returns c = rw (ne_eqb _ _ c.if-k-eq0.false) (then _ _ _ c.put_bytes-p.ensures c.put_places.ensures)
