-- By `then`, from what the calls ensure. Assumes nothing.
use Rattle.text.proofs.Laws.{then}
use Rattle.grid_lines.specs.Lines.{seen_text}
use Rattle.grid_lines.proofs.put_seen.Goals as goal

pub returns : goal.returns
unfolding seen_text
returns c = rw (← c.long.ensures) (then _ _ _ c.put_count-p.ensures c.put_counts.ensures)
