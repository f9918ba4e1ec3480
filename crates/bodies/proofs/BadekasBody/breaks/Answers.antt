-- One case for each way through the test. Assumes nothing.
use Rattle.bodies.specs.Rules.{some_rule}
use Rattle.bodies.proofs.BadekasBody.breaks.Goals as goal

pub returns-then-lacks_convention : goal.returns-then-lacks_convention
unfolding some_rule
returns-then-lacks_convention c = rw (← c.lacks_convention.ensures, c.if-lacks_convention.true)

pub returns : goal.returns
unfolding some_rule
returns c = rw (← c.lacks_convention.ensures, c.if-lacks_convention.false)
