-- By `then`, from what the calls ensure. Assumes nothing.
use Rattle.text.proofs.Laws.{then}
use Rattle.closure_page.specs.Page.{count_text}
use Rattle.closure_page.proofs.put_count.Goals as goal

pub returns : goal.returns
unfolding count_text
returns c = (then _ _ _ (then _ _ _ c.put_bytes-p.ensures c.put_decimal-q.ensures) c.put_bytes.ensures)
