-- One case for each way through the tests. Calls are replaced by what they ensure; the definition
-- is left. Assumes nothing.
use borrow.Author.Tests.{eq-eqb, ne_eqb}
use Rattle.plans.proofs.cart_of.Goals as goal

pub returns-then-kind-eq2 : goal.returns-then-kind-eq2
returns-then-kind-eq2 c = rw (eq-eqb _ _ c.if-kind-eq2.true) c.read_cart.ensures

pub returns-else-kind-eq2 : goal.returns-else-kind-eq2
returns-else-kind-eq2 c = rw (ne_eqb _ _ c.if-kind-eq2.false) c.blank.ensures
