-- One case for each way through the tests. Each by `then`, from what the calls ensure.
-- Assumes nothing.
use Rattle.text.proofs.Laws.{then}
use Rattle.lines.specs.Lines.{flag_text}
use Rattle.lines.proofs.put_flag.Goals as goal

pub returns-then-on : goal.returns-then-on
unfolding flag_text
returns-then-on c = rw c.if-on.true (then _ _ _ c.put_bytes-p.ensures c.put_bytes.ensures)

pub returns : goal.returns
unfolding flag_text
returns c = rw c.if-on.false (then _ _ _ c.put_bytes-p.ensures c.put_bytes-2.ensures)
