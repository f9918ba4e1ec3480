-- By `then`, from what the calls ensure. Assumes nothing.
use Rattle.text.proofs.Laws.{then}
use Rattle.rescue_text.specs.RescueText.{rescued_around}
use Rattle.rescue_text.proofs.put_rescued.Goals as goal

pub returns : goal.returns
unfolding rescued_around
returns c = then _ _ _ (then _ _ _ (then _ _ _ (then _ _ _ (then _ _ _ c.put_bytes-p.ensures (rw c.long.ensures at c.put_decimal-q.ensures)) c.put_bytes-r.ensures) c.put_changes-t.ensures) c.put_bytes-u.ensures) c.put_sheet.ensures
