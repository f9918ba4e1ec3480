-- By computation: the body's operations are the definition's, in its order. Assumes nothing.
use mathlib.Core.Path.{refl}
use Rattle.kept.specs.Entries.{refusal13}
use Rattle.kept.proofs.lengths_broken.Goals as goal

pub returns : goal.returns
unfolding refusal13
returns c = refl
