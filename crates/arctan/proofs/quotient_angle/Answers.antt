-- One case for each way through the tests. Calls are replaced by what they ensure; the definition
-- is left. Assumes nothing.
use Rattle.arctan.specs.Arctan.{quotient_angle_of}
use Rattle.arctan.proofs.quotient_angle.Goals as goal

pub returns-then-is_small : goal.returns-then-is_small
unfolding quotient_angle_of
returns-then-is_small c = rw (c.small_angle.ensures, ← c.cell_index-i.ensures, ← c.is_small.ensures, c.if-is_small.true)

pub returns : goal.returns
unfolding quotient_angle_of
returns c = rw (c.cut_angle.ensures, c.cell_at.ensures, c.octant_at.ensures, ← c.cell_index-i.ensures, ← c.is_small.ensures, c.if-is_small.false)
