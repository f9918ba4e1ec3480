-- By `then`, from what the calls ensure. Assumes nothing.
use Rattle.text.proofs.Laws.{then}
use Rattle.lines.specs.Lines.{three_line}
use Rattle.lines.proofs.put_three_at.Goals as goal

pub returns : goal.returns
unfolding three_line
returns c = then _ _ _ (then _ _ _ (then _ _ _ (then _ _ _ (then _ _ _ (then _ _ _ c.put_bytes-p.ensures c.put_number_at-q.ensures) c.put_bytes-r.ensures) c.put_number_at-t.ensures) c.put_bytes-u.ensures) c.put_number_at-v.ensures) c.put_end.ensures
