-- By `then`, from what the calls ensure. Assumes nothing.
use Rattle.text.proofs.Laws.{then}
use Rattle.grid_lines.specs.Lines.{counts_text}
use Rattle.grid_lines.proofs.put_counts.Goals as goal

pub returns : goal.returns
unfolding counts_text
returns c = rw (← c.row_count.ensures, ← c.column_count.ensures, ← c.wide64.ensures.0, ← c.wide64-2.ensures.0) (then _ _ _ c.put_count-p.ensures c.put_count.ensures)
