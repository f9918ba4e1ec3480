-- One case for each way through the tests. Each by `then`, from what the calls ensure.
-- Assumes nothing.
use borrow.Author.Tests.{ne_eqb}
use Rattle.text.proofs.Laws.{then}
use Rattle.figures.specs.Figures.{time_text}
use Rattle.figures.proofs.put_time.Goals as goal

pub returns-then-pattern-eq9221120237041090560 : goal.returns-then-pattern-eq9221120237041090560
unfolding time_text
returns-then-pattern-eq9221120237041090560 c = rw c.if-pattern-eq9221120237041090560.true c.put_bytes.ensures

pub returns : goal.returns
unfolding time_text
returns c = rw (ne_eqb _ _ c.if-pattern-eq9221120237041090560.false) (then _ _ _ c.put_number-p.ensures c.put_bytes-2.ensures)
