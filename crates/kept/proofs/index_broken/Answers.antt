-- By computation: the body's operations are the definition's, in its order. Assumes nothing.
use mathlib.Core.Path.{refl}
use Rattle.kept.specs.Entries.{refusal14}
use Rattle.kept.proofs.index_broken.Goals as goal

pub returns : goal.returns
unfolding refusal14
returns c = refl
