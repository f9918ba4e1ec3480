-- By `then`, from what the calls ensure. Assumes nothing.
use Rattle.text.proofs.Laws.{then}
use Rattle.closure_page.specs.Page.{page_text}
use Rattle.closure_page.proofs.put_page.Goals as goal

pub returns : goal.returns
unfolding page_text
returns c = (then _ _ _ (then _ _ _ (then _ _ _ c.put_counts-p.ensures c.put_bytes-q.ensures) c.put_coordinates-s.ensures) (rw (c.check_word.ensures, c.numbers-numbers.ensures) at c.put_radio.ensures))
