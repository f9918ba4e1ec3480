-- Calls are replaced by what they ensure; the definition is left. Assumes nothing.
use Rattle.deformation.specs.Step.{duration_of}
use Rattle.deformation.proofs.Motion.duration.Goals as goal

pub returns : goal.returns
unfolding duration_of
returns c = rw (c.lasting.ensures, c.is_finite.ensures)
