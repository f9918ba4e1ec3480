-- By `then`, from what the calls ensure. Assumes nothing.
use Rattle.text.proofs.Laws.{then}
use Rattle.lines.specs.Lines.{ellipsoid_line}
use Rattle.lines.proofs.put_ellipsoid.Goals as goal

pub returns : goal.returns
unfolding ellipsoid_line
returns c = rw (← c.place_of-place.ensures.0) (then _ _ _ (then _ _ _ c.put_bytes-p.ensures c.put_word_at-q.ensures) (rw (c.ellipsoid_words.ensures, c.read32-number.ensures) at c.put_bytes.ensures))
