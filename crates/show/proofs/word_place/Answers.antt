-- One case for each arm. Assumes nothing.
use borrow.Author.Rules.{rules}
use Rattle.show.specs.Show.{word_place}
use Rattle.show.proofs.word_place.Goals as goal

pub returns-in-1 : goal.returns-in-1
unfolding word_place
returns-in-1 c = rw c.in-1.is

pub returns-in-2 : goal.returns-in-2
unfolding word_place
returns-in-2 c = rw c.in-2.is

pub returns-in-3 : goal.returns-in-3
unfolding word_place
returns-in-3 c = rw c.in-3.is

pub returns-in_default : goal.returns-in_default
unfolding word_place
returns-in_default c = search rules
