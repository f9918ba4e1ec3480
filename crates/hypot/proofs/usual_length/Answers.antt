-- One case for each way through the tests. Calls are replaced by what they ensure; the definition
-- is left. Assumes nothing.
use mathlib.Core.Path.{refl, sym, ◌∙◌}
use Rattle.hypot.specs.Hypot.{squares_of, usual_of}
use Rattle.hypot.proofs.usual_length.Goals as goal

pub ordinary_length-requires : goal.ordinary_length-requires
unfolding squares_of
ordinary_length-requires c = (refl, sym c.is_ordinary.ensures ∙ c.if-is_ordinary.true)

pub returns-then-is_ordinary : goal.returns-then-is_ordinary
unfolding usual_of squares_of
returns-then-is_ordinary c = rw (c.ordinary_length.ensures, ← c.is_ordinary.ensures, c.if-is_ordinary.true)

pub returns-else-is_ordinary : goal.returns-else-is_ordinary
unfolding usual_of squares_of
returns-else-is_ordinary c = rw (← c.is_ordinary.ensures, c.if-is_ordinary.false)
