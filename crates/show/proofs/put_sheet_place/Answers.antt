-- By `then`, from what the calls ensure. Assumes nothing.
use Rattle.text.proofs.Laws.{then}
use Rattle.show.specs.Show.{sheet_place}
use Rattle.show.proofs.put_sheet_place.Goals as goal

pub returns : goal.returns
unfolding sheet_place
returns c = rw (← c.word_place-place.ensures) (then _ _ _ (then _ _ _ c.put_line-p.ensures c.put_line-q.ensures) c.put_head.ensures)
