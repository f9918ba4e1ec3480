-- By `then`, from what the calls ensure. Assumes nothing.
use Rattle.text.proofs.Laws.{then}
use Rattle.grid_lines.specs.Lines.{node_text}
use Rattle.grid_lines.proofs.put_node.Goals as goal

pub returns : goal.returns
unfolding node_text
returns c = rw (← c.across-w.ensures.0, ← c.wide64-row.ensures.0, ← c.wide64-column.ensures.0, ← c.wide.ensures.0) (then _ _ _ (then _ _ _ c.put_count-p.ensures c.put_count-q.ensures) c.put_velocity.ensures)
