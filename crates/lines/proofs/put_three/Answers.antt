-- Calls are replaced by what they ensure; the definition is left. Assumes nothing.
use Rattle.lines.specs.Lines.{three_line}
use Rattle.lines.proofs.put_three.Goals as goal

pub returns : goal.returns
unfolding three_line
returns c = rw (← c.place_of.ensures.0) c.put_three_at.ensures
