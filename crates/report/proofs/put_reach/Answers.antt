-- By `then`, from what the calls ensure. Assumes nothing.
use Rattle.text.proofs.Laws.{then}
use Rattle.report.specs.Report.{reach_text}
use Rattle.report.proofs.put_reach.Goals as goal

pub returns : goal.returns
unfolding reach_text
returns c = then _ _ _ (then _ _ _ (then _ _ _ (then _ _ _ (then _ _ _ (then _ _ _ c.put_bytes-p.ensures c.put_decimal-q.ensures) c.put_bytes-r.ensures) c.put_decimal-s.ensures) c.put_bytes-u.ensures) c.put_decimal-v.ensures) c.put_byte.ensures
