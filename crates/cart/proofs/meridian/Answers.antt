-- By computation: the body's operations are the definition's, in its order. Assumes nothing.
use mathlib.Core.Path.{refl}
use Rattle.cart.specs.Step.{latitude_legs_of}
use Rattle.cart.proofs.meridian.Goals as goal

pub returns : goal.returns
unfolding latitude_legs_of
returns c = refl
