-- One case for each way through the tests. Each by `of_index_lem`, from what the calls ensure.
-- Assumes nothing.
use Rattle.sheet.specs.Rules.{rules_of_step, first_broken, unless}
use Rattle.sheet.proofs.Order.{of_index_lem}
use Rattle.sheet_writer.proofs.check_step.Goals as goal

pub returns-then-five : goal.returns-then-five
unfolding rules_of_step first_broken unless
returns-then-five c = rw (c.of_step.ensures, of_index_lem _ _ c.requires, c.if-five.true)

pub returns-then-lacks_convention : goal.returns-then-lacks_convention
unfolding rules_of_step first_broken unless
returns-then-lacks_convention c = rw (c.of_step-then-lacks_convention.ensures, of_index_lem _ _ c.requires, ← c.lacks_convention.ensures, c.if-lacks_convention.true, c.if-five.false)

pub returns-then-lacks_epoch : goal.returns-then-lacks_epoch
unfolding rules_of_step first_broken unless
returns-then-lacks_epoch c = rw (c.of_step-then-lacks_epoch.ensures, of_index_lem _ _ c.requires, ← c.lacks_epoch.ensures, c.if-lacks_epoch.true, ← c.lacks_convention.ensures, c.if-lacks_convention.false, c.if-five.false)

pub returns-then-lacks_duration : goal.returns-then-lacks_duration
unfolding rules_of_step first_broken unless
returns-then-lacks_duration c = rw (c.of_step-then-lacks_duration.ensures, of_index_lem _ _ c.requires, ← c.lacks_duration.ensures, c.if-lacks_duration.true, ← c.lacks_epoch.ensures, c.if-lacks_epoch.false, ← c.lacks_convention.ensures, c.if-lacks_convention.false, c.if-five.false)

pub returns : goal.returns
unfolding rules_of_step first_broken unless
returns c = rw (← c.lacks_duration.ensures, c.if-lacks_duration.false, ← c.lacks_epoch.ensures, c.if-lacks_epoch.false, ← c.lacks_convention.ensures, c.if-lacks_convention.false, c.if-five.false)
