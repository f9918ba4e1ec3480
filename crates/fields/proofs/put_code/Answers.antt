-- By `then`, from what the calls ensure. Assumes nothing.
use Rattle.text.proofs.Laws.{then}
use Rattle.fields.proofs.put_code.Goals as goal

pub returns : goal.returns
returns c = then _ _ _ (then _ _ _ c.put_bytes-p.ensures c.put_u32-q.ensures) c.put_bytes.ensures
