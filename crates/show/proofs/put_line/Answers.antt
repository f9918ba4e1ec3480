-- By `then`, from what the calls ensure. Assumes nothing.
use Rattle.text.proofs.Laws.{then}
use Rattle.show.specs.Show.{line_of}
use Rattle.show.proofs.put_line.Goals as goal

pub returns : goal.returns
unfolding line_of
returns c = then _ _ _ (then _ _ _ c.put_bytes-p.ensures c.put_count-q.ensures) c.put_bytes.ensures
