-- One case for each way through the test. Assumes nothing.
use Rattle.bodies.specs.Rules.{some_rule}
use Rattle.bodies.proofs.DeformationBody.breaks.Goals as goal

pub returns-then-lacks_duration : goal.returns-then-lacks_duration
unfolding some_rule
returns-then-lacks_duration c = rw (← c.lacks_duration.ensures, c.if-lacks_duration.true)

pub returns : goal.returns
unfolding some_rule
returns c = rw (← c.lacks_duration.ensures, c.if-lacks_duration.false)
