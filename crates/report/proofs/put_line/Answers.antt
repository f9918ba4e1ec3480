-- By `then`, from what the calls ensure. Assumes nothing.
use Rattle.text.proofs.Laws.{then}
use Rattle.report.specs.Report.{line_of}
use Rattle.report.proofs.put_line.Goals as goal

pub returns : goal.returns
unfolding line_of
returns c = then _ _ _ (then _ _ _ (then _ _ _ (then _ _ _ c.put_bytes-p.ensures c.put_decimal-q.ensures) c.put_bytes-r.ensures) c.put_decimal-s.ensures) c.put_byte.ensures
