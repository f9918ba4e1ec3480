-- By computation: the body's operations are the definition's, in its order. Assumes nothing.
use mathlib.Core.Path.{refl}
use Rattle.cart.specs.Step.{inverse_figures_of}
use Rattle.cart.proofs.Inverse.new.Goals as goal

pub returns : goal.returns
unfolding inverse_figures_of
returns c = refl
