-- By computation: the body's operations are the definition's, in its order. Assumes nothing.
use mathlib.Core.Path.{refl}
use Rattle.trig.specs.Trig.{bend_of}
use Rattle.trig.proofs.bend.Goals as goal

pub returns : goal.returns
unfolding bend_of
returns c = refl
