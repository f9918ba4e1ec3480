-- By `then`, from what the calls ensure. Assumes nothing.
use Rattle.text.proofs.Laws.{then}
use Rattle.grid_lines.specs.Lines.{velocity_text}
use Rattle.grid_lines.proofs.put_velocity.Goals as goal

pub returns : goal.returns
unfolding velocity_text
returns c = rw (← c.read64.ensures, ← c.read64-2.ensures, ← c.read64-3.ensures) (then _ _ _ (then _ _ _ c.put_figure-p.ensures c.put_figure-q.ensures) c.put_figure.ensures)
