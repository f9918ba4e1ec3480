-- One case for each arm. Assumes nothing.
use borrow.Author.Rules.{rules}
use Rattle.closure_page.specs.Page.{takes_angles}
use Rattle.closure_page.proofs.takes_angles.Goals as goal

pub returns-in-2 : goal.returns-in-2
unfolding takes_angles
returns-in-2 c = search rules

pub returns-in-3 : goal.returns-in-3
unfolding takes_angles
returns-in-3 c = search rules

pub returns-in_default : goal.returns-in_default
unfolding takes_angles
returns-in_default c = search rules

pub returns-in_default-2 : goal.returns-in_default-2
unfolding takes_angles
returns-in_default-2 c = search rules
