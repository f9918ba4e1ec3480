-- By `then`, from what the calls ensure. Assumes nothing.
use Rattle.text.proofs.Laws.{then}
use Rattle.lines.specs.Lines.{one_line}
use Rattle.lines.proofs.put_one_at.Goals as goal

pub returns : goal.returns
unfolding one_line
returns c = then _ _ _ (then _ _ _ c.put_bytes-p.ensures c.put_number_at-q.ensures) c.put_end.ensures
