-- By `then`, from what the calls ensure. Assumes nothing.
use Rattle.text.proofs.Laws.{then}
use Rattle.rescue_text.specs.RescueText.{change_line}
use Rattle.rescue_text.proofs.put_change.Goals as goal

pub returns : goal.returns
unfolding change_line
returns c = then _ _ _ (then _ _ _ (then _ _ _ (then _ _ _ (then _ _ _ c.put_name-p.ensures c.put_bytes-q.ensures) c.put_u32-r.ensures) c.put_bytes-t.ensures) c.put_u32-u.ensures) c.put_bytes.ensures
