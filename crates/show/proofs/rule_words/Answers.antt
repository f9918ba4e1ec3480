-- One case for each arm. Assumes nothing.
use borrow.Author.Rules.{rules}
use Rattle.show.specs.Show.{rule_text}
use Rattle.show.proofs.rule_words.Goals as goal

pub returns-in-1 : goal.returns-in-1
unfolding rule_text
returns-in-1 c = rw c.in-1.is

pub returns-in-2 : goal.returns-in-2
unfolding rule_text
returns-in-2 c = rw c.in-2.is

pub returns-in-3 : goal.returns-in-3
unfolding rule_text
returns-in-3 c = rw c.in-3.is

pub returns-in-4 : goal.returns-in-4
unfolding rule_text
returns-in-4 c = rw c.in-4.is

pub returns-in-5 : goal.returns-in-5
unfolding rule_text
returns-in-5 c = rw c.in-5.is

pub returns-in-6 : goal.returns-in-6
unfolding rule_text
returns-in-6 c = rw c.in-6.is

pub returns-in-7 : goal.returns-in-7
unfolding rule_text
returns-in-7 c = rw c.in-7.is

pub returns-in-8 : goal.returns-in-8
unfolding rule_text
returns-in-8 c = rw c.in-8.is

pub returns-in_default : goal.returns-in_default
unfolding rule_text
returns-in_default c = search rules
