-- One case for each arm. Assumes nothing.
use borrow.Author.Rules.{rules}
use Rattle.fields.specs.Words.{inverted_text}
use Rattle.fields.proofs.inverted_words.Goals as goal

pub returns-in-0 : goal.returns-in-0
unfolding inverted_text
returns-in-0 c = rw c.in-0.is

pub returns-in-1 : goal.returns-in-1
unfolding inverted_text
returns-in-1 c = rw c.in-1.is

pub returns-in_default : goal.returns-in_default
unfolding inverted_text
returns-in_default c = search rules
