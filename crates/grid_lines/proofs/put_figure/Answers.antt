-- By `then`, from what the calls ensure. Assumes nothing.
use Rattle.text.proofs.Laws.{then}
use Rattle.grid_lines.specs.Lines.{figure_text}
use Rattle.grid_lines.proofs.put_figure.Goals as goal

pub returns : goal.returns
unfolding figure_text
returns c = then _ _ _ (then _ _ _ c.put_bytes-p.ensures c.put_number-q.ensures) c.put_bytes.ensures
