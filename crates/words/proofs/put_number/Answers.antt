-- What the body does is, step by step, what the definition says. Assumes nothing.
use Rattle.words.specs.Words.{le_number}
use Rattle.words.proofs.put_number.Goals as goal

pub returns : goal.returns
unfolding le_number
returns c = cc
