-- One case for each way through the test, whose outcome picks the definition's case.
-- Assumes nothing.
use borrow.Author.Tests.{eq-eqb, ne_eqb}
use Rattle.sheet_plans.proofs.reversed_by.Goals as goal

pub returns-then-inverted-eq1 : goal.returns-then-inverted-eq1
returns-then-inverted-eq1 c = rw (eq-eqb _ _ c.if-inverted-eq1.true)

pub returns-else-inverted-eq1 : goal.returns-else-inverted-eq1
returns-else-inverted-eq1 c = rw (ne_eqb _ _ c.if-inverted-eq1.false)
