-- The definition, field by field. Assumes nothing.
use mathlib.Core.Path.{refl}
use Rattle.badekas.specs.Step.{about_of}
use Rattle.badekas.proofs.about.Goals as goal

pub returns : goal.returns
unfolding about_of
returns c = refl
