-- One case for each way through the tests. Calls are replaced by what they ensure; the definition
-- is left. Assumes nothing.
use Rattle.plans.proofs.cart_plan.Goals as goal

pub returns-then-inverse : goal.returns-then-inverse
returns-then-inverse c = rw (c.if-inverse.true, c.new.ensures, c.named-ellps.ensures)

pub returns-else-inverse : goal.returns-else-inverse
returns-else-inverse c = rw (c.if-inverse.false, c.named-ellps.ensures)
