-- The words are the table's; the definition is left. Assumes nothing.
use Rattle.fields.specs.Words.{kind_line}
use Rattle.fields.proofs.put_kind.Goals as goal

pub returns : goal.returns
unfolding kind_line
returns c = rw c.kind_words.ensures at c.put_code.ensures
