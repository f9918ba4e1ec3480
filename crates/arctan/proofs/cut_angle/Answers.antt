-- Calls are replaced by what they ensure; the definition is left. Assumes nothing.
use Rattle.arctan.specs.Arctan.{cut_angle_of}
use Rattle.arctan.proofs.cut_angle.Goals as goal

pub returns : goal.returns
unfolding cut_angle_of
returns c = rw c.tail.ensures
