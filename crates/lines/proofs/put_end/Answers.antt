-- One case for each way through the tests. Each by `then`, from what the calls ensure.
-- Assumes nothing.
use Rattle.text.proofs.Laws.{then}
use Rattle.lines.specs.Lines.{end_text}
use Rattle.lines.proofs.put_end.Goals as goal

pub returns-then-rate : goal.returns-then-rate
unfolding end_text
returns-then-rate c = rw c.if-rate.true (then _ _ _ (rw c.unit_words.ensures at c.put_bytes-p.ensures) c.put_bytes.ensures)

pub returns : goal.returns
unfolding end_text
returns c = rw c.if-rate.false (then _ _ _ (rw c.unit_words.ensures at c.put_bytes-p.ensures) c.put_bytes-2.ensures)
