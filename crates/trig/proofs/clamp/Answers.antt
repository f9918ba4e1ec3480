-- One case for each way through the tests. Calls are replaced by what they ensure; the definition
-- is left. Assumes nothing.
use Rattle.trig.specs.Trig.{clamp_of}
use Rattle.trig.proofs.clamp.Goals as goal

pub returns-then-u : goal.returns-then-u
unfolding clamp_of
returns-then-u c = rw (← c.at_most_one-u.ensures, c.if-u.true)

pub returns-else-u : goal.returns-else-u
unfolding clamp_of
returns-else-u c = rw (← c.at_most_one-u.ensures, c.if-u.false)
