-- By `then`, from what the calls ensure. Assumes nothing.
use Rattle.text.proofs.Laws.{then}
use Rattle.grid_lines.specs.Lines.{angle_text}
use Rattle.grid_lines.proofs.put_angle.Goals as goal

pub returns : goal.returns
unfolding angle_text
returns c = rw (← c.of_bits.ensures, ← c.degrees.ensures, ← c.to_bits-d.ensures) (then _ _ _ (then _ _ _ c.put_figure-p.ensures c.put_number-q.ensures) c.put_bytes.ensures)
