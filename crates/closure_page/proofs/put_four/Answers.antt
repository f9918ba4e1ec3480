-- By `then`, from what the calls ensure. Assumes nothing.
use Rattle.text.proofs.Laws.{then}
use Rattle.closure_page.specs.Page.{four_text}
use Rattle.closure_page.proofs.put_four.Goals as goal

pub returns : goal.returns
unfolding four_text
returns c = (then _ _ _ (then _ _ _ (then _ _ _ c.put_decimal-p.ensures c.put_bytes-q.ensures) c.put_three-r.ensures) c.put_power.ensures)
