-- By `then`, from what the calls ensure. Assumes nothing.
use Rattle.text.proofs.Laws.{then}
use Rattle.closure_page.specs.Page.{three_text}
use Rattle.closure_page.proofs.put_three.Goals as goal

pub returns : goal.returns
unfolding three_text
returns c = (then _ _ _ (then _ _ _ c.put_byte-p.ensures c.put_byte-q.ensures) c.put_byte.ensures)
