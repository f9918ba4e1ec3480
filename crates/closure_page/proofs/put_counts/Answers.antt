-- By `then`, from what the calls ensure. Assumes nothing.
use Rattle.text.proofs.Laws.{then}
use Rattle.closure_page.specs.Page.{counts_text}
use Rattle.closure_page.proofs.put_counts.Goals as goal

pub returns : goal.returns
unfolding counts_text
returns c = (then _ _ _ (then _ _ _ (then _ _ _ c.put_count-p.ensures c.put_count-q.ensures) c.put_count-s.ensures) c.put_count.ensures)
