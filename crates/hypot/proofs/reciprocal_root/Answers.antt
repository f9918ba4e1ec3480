-- By computation: the body's operations are the definition's, in its order. Assumes nothing.
use mathlib.Core.Path.{refl}
use Rattle.hypot.specs.Hypot.{reciprocal_root_of}
use Rattle.hypot.proofs.reciprocal_root.Goals as goal

pub returns : goal.returns
unfolding reciprocal_root_of
returns c = refl
