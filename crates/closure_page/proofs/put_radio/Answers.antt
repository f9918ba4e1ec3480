-- By `then`, from what the calls ensure. Assumes nothing.
use Rattle.text.proofs.Laws.{then}
use Rattle.closure_page.specs.Page.{radio_text}
use Rattle.closure_page.proofs.put_radio.Goals as goal

pub returns : goal.returns
unfolding radio_text
returns c = (then _ _ _ (then _ _ _ (then _ _ _ (then _ _ _ c.put_bytes-p.ensures c.put_decimal-q.ensures) c.put_bytes-r.ensures) c.put_decimal-s.ensures) c.put_bytes.ensures)
