-- One case for each rule, in their order. Assumes nothing.
use Rattle.bodies.specs.Rules.{some_rule}
use Rattle.bodies.proofs.HelmertBody.breaks.Goals as goal

pub returns-then-lacks_convention : goal.returns-then-lacks_convention
unfolding some_rule
returns-then-lacks_convention c = rw (← c.lacks_convention.ensures, c.if-lacks_convention.true)

pub returns-then-lacks_epoch : goal.returns-then-lacks_epoch
unfolding some_rule
returns-then-lacks_epoch c = rw (← c.lacks_convention.ensures, c.if-lacks_convention.false, ← c.lacks_epoch.ensures, c.if-lacks_epoch.true)

pub returns : goal.returns
unfolding some_rule
returns c = rw (← c.lacks_convention.ensures, c.if-lacks_convention.false, ← c.lacks_epoch.ensures, c.if-lacks_epoch.false)
