-- By `then`, from what the calls ensure. Assumes nothing.
use Rattle.text.proofs.Laws.{then}
use Rattle.grid_lines.specs.Lines.{columns_text}
use Rattle.grid_lines.proofs.put_columns.Goals as goal

pub returns : goal.returns
unfolding columns_text
returns c = rw (← c.columns.ensures, ← c.last.ensures, ← c.to_bits-east.ensures, ← c.read64.ensures, ← c.read64-2.ensures) (then _ _ _ (then _ _ _ c.put_angle-p.ensures c.put_angle-q.ensures) c.put_angle.ensures)
