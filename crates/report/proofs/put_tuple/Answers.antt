-- By `then`, from what the calls ensure. Assumes nothing.
use Rattle.text.proofs.Laws.{then}
use Rattle.report.specs.Report.{tuple_text}
use Rattle.report.proofs.put_tuple.Goals as goal

pub returns : goal.returns
unfolding tuple_text
returns c = then _ _ _ (then _ _ _ (then _ _ _ c.put_word-p.ensures c.put_word-q.ensures) c.put_word-r.ensures) c.put_word.ensures
