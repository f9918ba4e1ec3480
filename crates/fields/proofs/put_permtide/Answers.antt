-- By `then`, from what the calls ensure. Assumes nothing.
use Rattle.text.proofs.Laws.{then}
use Rattle.fields.specs.Fields.{permtide_text}
use Rattle.fields.proofs.put_permtide.Goals as goal

pub returns : goal.returns
unfolding permtide_text
returns c = rw (← c.word_in-to.ensures, ← c.word_in-from.ensures) (then _ _ _ (then _ _ _ (then _ _ _ (then _ _ _ c.put_ellipsoid-p.ensures c.put_system-q.ensures) c.put_system-r.ensures) c.put_word-t.ensures) c.put_one.ensures)
