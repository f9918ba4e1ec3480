-- By `then`, from what the calls ensure. Assumes nothing.
use Rattle.text.proofs.Laws.{then}
use Rattle.lines.specs.Lines.{series_lines}
use Rattle.lines.proofs.put_series.Goals as goal

pub returns : goal.returns
unfolding series_lines
returns c = rw (← c.place_of-first.ensures.0, ← c.place_of-second.ensures.0) (then _ _ _ (then _ _ _ c.put_three_at-p.ensures c.put_three_at-q.ensures) c.put_three_in_force.ensures)
