-- By `then`, from what the calls ensure. Assumes nothing.
use Rattle.text.proofs.Laws.{then}
use Rattle.grid_lines.specs.Lines.{count_text}
use Rattle.grid_lines.proofs.put_count.Goals as goal

pub returns : goal.returns
unfolding count_text
returns c = then _ _ _ (then _ _ _ c.put_bytes-p.ensures c.put_decimal-q.ensures) c.put_bytes.ensures
