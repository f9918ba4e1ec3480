-- By computation: the body's operations are the definition's, in its order. Assumes nothing.
use mathlib.Core.Path.{refl}
use Rattle.stretch.specs.Kept.{fit_of}
use Rattle.stretch_flat.proofs.fits.Goals as goal

pub returns : goal.returns
unfolding fit_of
returns c = refl
