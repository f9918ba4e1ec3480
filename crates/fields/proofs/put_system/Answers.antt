-- The words are the table's; the definition is left. Assumes nothing.
use Rattle.fields.specs.Words.{system_line}
use Rattle.fields.proofs.put_system.Goals as goal

pub returns : goal.returns
unfolding system_line
returns c = rw c.system_words.ensures at c.put_code.ensures
