-- Calls are replaced by what they ensure; the definition is left. Assumes nothing.
use Rattle.rescue.specs.Rules.{entry_broken}
use Rattle.rescue.proofs.entry_broken.Goals as goal

pub returns : goal.returns
unfolding entry_broken
returns c = rw (c.inverted_word.ensures, c.length_of.ensures, c.kind_word.ensures)
