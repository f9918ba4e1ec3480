-- Calls are replaced by what they ensure; the definition is left. Assumes nothing.
use Rattle.lines.proofs.word_in.Goals as goal

pub returns : goal.returns
returns c = rw (c.read32.ensures, c.place_of.ensures.0)
