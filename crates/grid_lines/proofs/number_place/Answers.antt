-- Each return by the tests that led there. Assumes nothing.
use borrow.Author.Tests.{lt-ltb, le-ltb}
use Rattle.grid_lines.specs.Lines.{number_place}
use Rattle.grid_lines.proofs.number_place.Goals as goal

pub returns-then-k-numbers : goal.returns-then-k-numbers
unfolding number_place
returns-then-k-numbers c = rw (← c.first_not_finite-k.ensures.0, ← c.numbers.ensures, lt-ltb _ _ c.if-k-numbers.true)

pub returns-then-above_zero : goal.returns-then-above_zero
unfolding number_place
returns-then-above_zero c = rw (← c.first_not_finite-k.ensures.0, ← c.numbers.ensures, le-ltb _ _ c.if-k-numbers.false, ← c.latitude_spacing.ensures, ← c.above_zero.ensures, c.if-above_zero.true)

pub returns-else-above_zero : goal.returns-else-above_zero
unfolding number_place
returns-else-above_zero c = rw (← c.first_not_finite-k.ensures.0, ← c.numbers.ensures, le-ltb _ _ c.if-k-numbers.false, ← c.latitude_spacing.ensures, ← c.above_zero.ensures, c.if-above_zero.false)
