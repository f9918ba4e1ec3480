-- By computation: the body's operations are the definition's, in its order. Assumes nothing.
use mathlib.Core.Path.{refl}
use Rattle.molodensky.specs.Step.{place_with}
use Rattle.molodensky.proofs.Place.with.Goals as goal

pub returns : goal.returns
unfolding place_with
returns c = refl
