-- By computation: the body's operations are the definition's, in its order. Assumes nothing.
use mathlib.Core.Path.{refl}
use Rattle.rotation.specs.Matrix.{first_order_of}
use Rattle.rotation.proofs.first_order.Goals as goal

pub returns : goal.returns
unfolding first_order_of
returns c = refl
