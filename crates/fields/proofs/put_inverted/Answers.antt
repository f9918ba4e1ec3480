-- The words are the table's; the definition is left. Assumes nothing.
use Rattle.fields.specs.Words.{inverted_line}
use Rattle.fields.proofs.put_inverted.Goals as goal

pub returns : goal.returns
unfolding inverted_line
returns c = rw c.inverted_words.ensures at c.put_code.ensures
