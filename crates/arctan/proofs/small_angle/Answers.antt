-- Calls are replaced by what they ensure; the definition is left. Assumes nothing.
use Rattle.arctan.specs.Arctan.{small_angle_of}
use Rattle.arctan.proofs.small_angle.Goals as goal

pub returns : goal.returns
unfolding small_angle_of
returns c = rw (c.tail.ensures, c.head-g.ensures, c.head-h.ensures)
