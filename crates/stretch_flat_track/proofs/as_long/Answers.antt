-- By computation: the body's operations are the definition's, in its order. Assumes nothing.
use mathlib.Core.Path.{refl}
use Rattle.stretch.specs.Kept.{as_long_of}
use Rattle.stretch_flat_track.proofs.as_long.Goals as goal

pub returns : goal.returns
unfolding as_long_of
returns c = refl
