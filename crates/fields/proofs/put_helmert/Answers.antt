-- By `then`, from what the calls ensure. Assumes nothing.
use Rattle.text.proofs.Laws.{then}
use Rattle.fields.specs.Fields.{helmert_text}
use Rattle.fields.proofs.Flags.{helmert}
use Rattle.fields.proofs.put_helmert.Goals as goal

pub returns : goal.returns
unfolding helmert_text
returns c = rw (← c.word_in-flags.ensures, ← c.word_in-convention.ensures) (then _ _ _ (then _ _ _ (then _ _ _ (then _ _ _ (then _ _ _ (then _ _ _ (rw (helmert _) at c.put_flags-p.ensures) c.put_convention-q.ensures) c.put_lengths-r.ensures) c.put_angles-t.ensures) c.put_scales-u.ensures) c.put_time-v.ensures) c.put_time.ensures)
