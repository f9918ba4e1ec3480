-- By `then`, from what the calls ensure. Assumes nothing.
use Rattle.text.proofs.Laws.{then}
use Rattle.lines.specs.Lines.{three_in_force}
use Rattle.lines.proofs.put_three_in_force.Goals as goal

pub returns : goal.returns
unfolding three_in_force
returns c = then _ _ _ (then _ _ _ (then _ _ _ (then _ _ _ (then _ _ _ (then _ _ _ c.put_bytes-p.ensures c.put_winner-q.ensures) c.put_bytes-r.ensures) c.put_winner-t.ensures) c.put_bytes-u.ensures) c.put_winner-v.ensures) c.put_end.ensures
