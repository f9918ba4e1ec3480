-- What the body does is, step by step, what the definition says. Assumes nothing.
use borrow.Author.Tests.{lt-ltb}
use Rattle.figures.proofs.digit.Goals as goal

pub returns : goal.returns
returns c = rw (lt-ltb c.args.d 10 c.requires)
