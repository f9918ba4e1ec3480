-- Calls are replaced by what they ensure; the definition is left. Assumes nothing.
use Rattle.deformation.specs.Step.{motion_of}
use Rattle.deformation.proofs.Motion.new.Goals as goal

pub returns : goal.returns
unfolding motion_of
returns c = rw (c.raw.ensures, c.named.ensures)
