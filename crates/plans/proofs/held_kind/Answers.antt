-- One case for each way through the tests. Calls are replaced by what they ensure; the definition
-- is left. Assumes nothing.
use borrow.Author.Tests.{eq-eqb, ne_eqb}
use Rattle.plans.proofs.held_kind.Goals as goal

pub returns-then-length-wide : goal.returns-then-length-wide
returns-then-length-wide c = rw (← c.length_of.ensures, ← c.wide.ensures.0, eq-eqb _ _ c.if-length-wide.true)

pub returns-else-length-wide : goal.returns-else-length-wide
returns-else-length-wide c = rw (← c.length_of.ensures, ← c.wide.ensures.0, ne_eqb _ _ c.if-length-wide.false)
