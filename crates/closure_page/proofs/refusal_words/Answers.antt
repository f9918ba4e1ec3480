-- One case for each arm. Assumes nothing.
use borrow.Author.Rules.{rules}
use Rattle.closure_page.specs.Page.{refusal_words}
use Rattle.closure_page.proofs.refusal_words.Goals as goal

pub returns-in-9 : goal.returns-in-9
unfolding refusal_words
returns-in-9 c = rw c.in-9.is

pub returns-in-10 : goal.returns-in-10
unfolding refusal_words
returns-in-10 c = rw c.in-10.is

pub returns-in-16 : goal.returns-in-16
unfolding refusal_words
returns-in-16 c = rw c.in-16.is

pub returns-in-25 : goal.returns-in-25
unfolding refusal_words
returns-in-25 c = rw c.in-25.is

pub returns-in_default : goal.returns-in_default
unfolding refusal_words
returns-in_default c = search rules
