-- The words are the table's; the definition is left. Assumes nothing.
use Rattle.fields.specs.Words.{convention_line}
use Rattle.fields.proofs.put_convention.Goals as goal

pub returns : goal.returns
unfolding convention_line
returns c = rw c.convention_words.ensures at c.put_code.ensures
