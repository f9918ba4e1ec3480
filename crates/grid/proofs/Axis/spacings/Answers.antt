-- Both answers are there; the comparison chooses. Assumes nothing.
use Rattle.grid.specs.Lookup.{spacings_of}
use Rattle.grid.proofs.Axis.spacings.Goals as goal

pub returns-then-x-last : goal.returns-then-x-last
unfolding spacings_of
returns-then-x-last c = rw (c.lesser-before_last.ensures, c.quotient.ensures, c.far-at_last.ensures, ← c.last.ensures, c.if-x-last.true)

pub returns-else-x-last : goal.returns-else-x-last
unfolding spacings_of
returns-else-x-last c = rw (c.far-at_last.ensures, ← c.last.ensures, c.if-x-last.false)
