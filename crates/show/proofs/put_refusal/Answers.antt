-- By `then`, from what the calls ensure. Assumes nothing.
use Rattle.text.proofs.Laws.{then}
use Rattle.show.specs.Show.{told_text}
use Rattle.show.proofs.put_refusal.Goals as goal

pub returns : goal.returns
unfolding told_text
returns c = then _ _ _ (then _ _ _ (then _ _ _ (then _ _ _ (then _ _ _ c.put_bytes-p.ensures c.put_u32-q.ensures) c.put_bytes-r.ensures) c.put_u32-t.ensures) c.put_bytes-u.ensures) c.put_bytes.ensures
