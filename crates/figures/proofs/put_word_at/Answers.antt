-- Calls are replaced by what they ensure; the definition is left. Assumes nothing.
use Rattle.figures.proofs.put_word_at.Goals as goal

pub returns : goal.returns
returns c = rw (← c.read32.ensures, ← c.wide64.ensures.0) c.put_decimal.ensures
