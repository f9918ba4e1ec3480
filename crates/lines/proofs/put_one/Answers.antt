-- Calls are replaced by what they ensure; the definition is left. Assumes nothing.
use Rattle.lines.specs.Lines.{one_line}
use Rattle.lines.proofs.put_one.Goals as goal

pub returns : goal.returns
unfolding one_line
returns c = rw (← c.place_of.ensures.0) c.put_one_at.ensures
