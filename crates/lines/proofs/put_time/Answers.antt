-- By `then`, from what the calls ensure. Assumes nothing.
use Rattle.text.proofs.Laws.{then}
use Rattle.lines.specs.Lines.{time_line}
use Rattle.lines.proofs.put_time.Goals as goal

pub returns : goal.returns
unfolding time_line
returns c = rw (← c.place_of-place.ensures.0) (then _ _ _ (then _ _ _ c.put_bytes-p.ensures c.put_time_at-q.ensures) c.put_bytes.ensures)
