-- By `then`, from what the calls ensure. Assumes nothing.
use Rattle.text.proofs.Laws.{then}
use Rattle.report.specs.Report.{word_of}
use Rattle.report.proofs.put_word.Goals as goal

pub returns : goal.returns
unfolding word_of
returns c = rw (← c.to_bits.ensures) (then _ _ _ c.put_hex-p.ensures c.put_byte.ensures)
