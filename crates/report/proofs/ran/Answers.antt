-- By `then`, from what the calls ensure. Assumes nothing.
use Rattle.report.specs.Report.{ran_text}
use Rattle.text.proofs.Laws.{then}
use Rattle.report.proofs.ran.Goals as goal

pub returns : goal.returns
unfolding ran_text
returns c = then _ _ _ (then _ _ _ c.put_head-p.ensures c.put_counts-q.ensures) c.put_tuples.ensures
