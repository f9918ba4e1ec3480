-- By computation: the body's operations are the definition's, in its order. Assumes nothing.
use mathlib.Core.Path.{refl}
use Rattle.chain.specs.Rules.{refusal9}
use Rattle.chain.proofs.list_broken.Goals as goal

pub returns : goal.returns
unfolding refusal9
returns c = refl
