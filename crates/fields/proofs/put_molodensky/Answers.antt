-- By `then`, from what the calls ensure. Assumes nothing.
use Rattle.text.proofs.Laws.{then}
use Rattle.fields.specs.Fields.{molodensky_text}
use Rattle.fields.proofs.put_molodensky.Goals as goal

pub returns : goal.returns
unfolding molodensky_text
returns c = then _ _ _ c.put_figures-p.ensures c.put_shifts.ensures
