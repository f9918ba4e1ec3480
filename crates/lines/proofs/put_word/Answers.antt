-- By `then`, from what the calls ensure. Assumes nothing.
use Rattle.text.proofs.Laws.{then}
use Rattle.lines.specs.Lines.{word_line}
use Rattle.lines.proofs.put_word.Goals as goal

pub returns : goal.returns
unfolding word_line
returns c = rw (← c.place_of-place.ensures.0) (then _ _ _ (then _ _ _ c.put_bytes-p.ensures c.put_word_at-q.ensures) c.put_bytes.ensures)
