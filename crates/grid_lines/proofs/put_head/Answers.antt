-- By `then`, from what the calls ensure. Assumes nothing.
use Rattle.text.proofs.Laws.{then}
use Rattle.grid_lines.specs.Lines.{head_text}
use Rattle.grid_lines.proofs.put_head.Goals as goal

pub returns : goal.returns
unfolding head_text
returns c = then _ _ _ (then _ _ _ c.put_counts-p.ensures c.put_rows-q.ensures) c.put_columns.ensures
