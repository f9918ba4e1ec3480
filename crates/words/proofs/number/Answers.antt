-- What the body does is, step by step, what the definition says. Assumes nothing.
use Rattle.words.specs.Words.{number_at}
use Rattle.words.proofs.number.Goals as goal

pub returns : goal.returns
unfolding number_at
returns c = cc
