-- One case for each arm. Assumes nothing.
use borrow.Author.Rules.{rules}
use Rattle.rescue_text.specs.RescueText.{entry_name}
use Rattle.rescue_text.proofs.entry_name.Goals as goal

pub returns-in-0 : goal.returns-in-0
unfolding entry_name
returns-in-0 c = rw c.in-0.is

pub returns-in-4 : goal.returns-in-4
unfolding entry_name
returns-in-4 c = rw c.in-4.is

pub returns-in-8 : goal.returns-in-8
unfolding entry_name
returns-in-8 c = rw c.in-8.is

pub returns-in_default : goal.returns-in_default
unfolding entry_name
returns-in_default c = search rules
