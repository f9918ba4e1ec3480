-- By `then`, from what the calls ensure. Assumes nothing.
use Rattle.text.proofs.Laws.{then}
use Rattle.fields.specs.Fields.{scales_text}
use Rattle.fields.proofs.put_scales.Goals as goal

pub returns : goal.returns
unfolding scales_text
returns c = then _ _ _ c.put_single-p.ensures c.put_single.ensures
