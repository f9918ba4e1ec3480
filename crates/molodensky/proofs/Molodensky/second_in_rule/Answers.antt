-- One case for each way through the tests. Calls are replaced by what they ensure; the definition
-- is left. Assumes nothing.
use Rattle.molodensky.proofs.Molodensky.second_in_rule.Goals as goal

pub returns-then-two_ellipsoids : goal.returns-then-two_ellipsoids
returns-then-two_ellipsoids c = rw (c.exists.ensures, ← c.two_ellipsoids.ensures, c.if-two_ellipsoids.true)

pub returns-else-two_ellipsoids : goal.returns-else-two_ellipsoids
returns-else-two_ellipsoids c = rw (← c.two_ellipsoids.ensures, c.if-two_ellipsoids.false)
