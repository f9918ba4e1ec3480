-- One case for each arm. Assumes nothing.
use borrow.Author.Rules.{rules}
use Rattle.rescue_text.specs.RescueText.{refusal_words}
use Rattle.rescue_text.proofs.refusal_words.Goals as goal

pub returns-in-15 : goal.returns-in-15
unfolding refusal_words
returns-in-15 c = rw c.in-15.is

pub returns-in-19 : goal.returns-in-19
unfolding refusal_words
returns-in-19 c = rw c.in-19.is

pub returns-in_default : goal.returns-in_default
unfolding refusal_words
returns-in_default c = search rules
