-- One case for each arm. Assumes nothing.
use borrow.Author.Rules.{rules}
use Rattle.fields.specs.Words.{kind_text}
use Rattle.fields.proofs.kind_words.Goals as goal

pub returns-in-1 : goal.returns-in-1
unfolding kind_text
returns-in-1 c = rw c.in-1.is

pub returns-in-2 : goal.returns-in-2
unfolding kind_text
returns-in-2 c = rw c.in-2.is

pub returns-in-3 : goal.returns-in-3
unfolding kind_text
returns-in-3 c = rw c.in-3.is

pub returns-in-4 : goal.returns-in-4
unfolding kind_text
returns-in-4 c = rw c.in-4.is

pub returns-in-5 : goal.returns-in-5
unfolding kind_text
returns-in-5 c = rw c.in-5.is

pub returns-in-6 : goal.returns-in-6
unfolding kind_text
returns-in-6 c = rw c.in-6.is

pub returns-in_default : goal.returns-in_default
unfolding kind_text
returns-in_default c = search rules
