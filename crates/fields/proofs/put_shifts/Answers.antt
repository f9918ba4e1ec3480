-- By `then`, from what the calls ensure. Assumes nothing.
use Rattle.text.proofs.Laws.{then}
use Rattle.fields.specs.Fields.{shifts_text}
use Rattle.fields.proofs.put_shifts.Goals as goal

pub returns : goal.returns
unfolding shifts_text
returns c = then _ _ _ (then _ _ _ (then _ _ _ (then _ _ _ c.put_one-p.ensures c.put_one-q.ensures) c.put_one-r.ensures) c.put_one-t.ensures) c.put_one.ensures
