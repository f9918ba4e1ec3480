-- One case for each way through the tests. Calls are replaced by what they ensure; the definition
-- is left. Assumes nothing.
use Rattle.helmert.proofs.apply_about.Goals as goal

pub returns-then-inv : goal.returns-then-inv
returns-then-inv c = rw (c.inverse_about.ensures, c.if-inv.true)

pub returns : goal.returns
returns c = rw (c.forward_about.ensures, c.if-inv.false)
