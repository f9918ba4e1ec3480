-- One case for each arm. Assumes nothing.
use borrow.Author.Rules.{rules}
use Rattle.fields.specs.Words.{system_text}
use Rattle.fields.proofs.system_words.Goals as goal

pub returns-in-1 : goal.returns-in-1
unfolding system_text
returns-in-1 c = rw c.in-1.is

pub returns-in-2 : goal.returns-in-2
unfolding system_text
returns-in-2 c = rw c.in-2.is

pub returns-in-3 : goal.returns-in-3
unfolding system_text
returns-in-3 c = rw c.in-3.is

pub returns-in_default : goal.returns-in_default
unfolding system_text
returns-in_default c = search rules
