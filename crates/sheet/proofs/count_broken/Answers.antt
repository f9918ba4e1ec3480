-- By computation: the body's operations are the definition's, in its order. Assumes nothing.
use mathlib.Core.Path.{refl}
use Rattle.sheet.specs.Rules.{refusal3}
use Rattle.sheet.proofs.count_broken.Goals as goal

pub returns : goal.returns
unfolding refusal3
returns c = refl
