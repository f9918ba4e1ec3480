-- One case for each way through the test. Calls are replaced by what they ensure; the definition is
-- left. Assumes nothing.
use borrow.Author.Tests.{eq-eqb, ne_eqb}
use Rattle.report.proofs.put_count.Goals as goal

pub returns-then-met-ne0 : goal.returns-then-met-ne0
returns-then-met-ne0 c = rw (ne_eqb _ _ c.if-met-ne0.true, ← c.long-then-met-ne0-2.ensures, ← c.long-then-met-ne0.ensures, ← c.long.ensures) c.put_reach.ensures

pub returns : goal.returns
returns c = rw (eq-eqb _ _ c.if-met-ne0.false, ← c.long-3.ensures, ← c.long-2.ensures) c.put_line.ensures
