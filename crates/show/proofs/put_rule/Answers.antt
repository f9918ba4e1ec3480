-- The words are the table's. Assumes nothing.
use Rattle.show.proofs.put_rule.Goals as goal

pub returns : goal.returns
returns c = rw c.rule_words.ensures at c.put_bytes.ensures
