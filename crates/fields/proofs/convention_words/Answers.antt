-- One case for each arm. Assumes nothing.
use borrow.Author.Rules.{rules}
use Rattle.fields.specs.Words.{convention_text}
use Rattle.fields.proofs.convention_words.Goals as goal

pub returns-in-0 : goal.returns-in-0
unfolding convention_text
returns-in-0 c = rw c.in-0.is

pub returns-in-1 : goal.returns-in-1
unfolding convention_text
returns-in-1 c = rw c.in-1.is

pub returns-in-2 : goal.returns-in-2
unfolding convention_text
returns-in-2 c = rw c.in-2.is

pub returns-in_default : goal.returns-in_default
unfolding convention_text
returns-in_default c = search rules
