-- Calls are replaced by what they ensure; the definition is left. Assumes nothing.
use Rattle.show.specs.Show.{line_of}
use Rattle.show.proofs.put_word.Goals as goal

pub returns : goal.returns
unfolding line_of
returns c = rw (← c.wide.ensures.0) c.put_line.ensures
