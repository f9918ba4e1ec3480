-- Calls are replaced by what they ensure; the definition is left. Assumes nothing.
use Rattle.stretch.specs.Same.{alike_of}
use Rattle.stretch.proofs.alike.Goals as goal

pub returns : goal.returns
unfolding alike_of
returns c = rw (c.alike_number-4.ensures, c.alike_number-3.ensures, c.alike_number-2.ensures, c.alike_number.ensures)
