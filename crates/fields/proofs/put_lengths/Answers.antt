-- By `then`, from what the calls ensure. Assumes nothing.
use Rattle.text.proofs.Laws.{then}
use Rattle.fields.specs.Fields.{lengths_text}
use Rattle.fields.proofs.put_lengths.Goals as goal

pub returns : goal.returns
unfolding lengths_text
returns c = rw (← c.length_unit-unit.ensures) (then _ _ _ c.put_series-p.ensures c.put_series.ensures)
