-- One case for each way through the tests. Calls are replaced by what they ensure; the definition
-- is left. Assumes nothing.
use Rattle.arctan.specs.Arctan.{inside_of}
use Rattle.arctan.proofs.inside.Goals as goal

pub returns-then-is_moderate : goal.returns-then-is_moderate
unfolding inside_of
returns-then-is_moderate c =
    rw (c.within.ensures, c.quotient_angle.ensures, c.octant_at.ensures, ← c.octant_index-k.ensures, ← c.choose-large.ensures, ← c.choose-small.ensures, ← c.is_moderate.ensures, c.if-is_moderate.true)

pub returns-else-is_moderate : goal.returns-else-is_moderate
unfolding inside_of
returns-else-is_moderate c =
    rw (c.within-else-is_moderate.ensures, c.extreme_angle.ensures, c.octant_at-else-is_moderate.ensures, ← c.octant_index-k.ensures, ← c.choose-large.ensures, ← c.choose-small.ensures, ← c.is_moderate.ensures, c.if-is_moderate.false)
