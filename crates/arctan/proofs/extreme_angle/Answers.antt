-- One case for each way through the tests. Calls are replaced by what they ensure; the definition
-- is left. Assumes nothing.
use borrow.Author.Tests.{ne_eqb}
use Rattle.arctan.specs.Arctan.{extreme_angle_of}
use Rattle.arctan.proofs.extreme_angle.Goals as goal

pub returns-then-a-b : goal.returns-then-a-b
unfolding extreme_angle_of
returns-then-a-b c = rw (c.quotient_angle.ensures, c.scale_of-scale.ensures, c.if-a-b.true)

pub returns-then-k-eq0 : goal.returns-then-k-eq0
unfolding extreme_angle_of
returns-then-k-eq0 c = rw (c.if-a-b.false, c.if-k-eq0.true)

pub returns : goal.returns
unfolding extreme_angle_of
returns c = rw (c.octant_at.ensures, c.if-a-b.false, ne_eqb c.args.k 0 c.if-k-eq0.false)
