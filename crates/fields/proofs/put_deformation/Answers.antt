-- By `then`, from what the calls ensure. Assumes nothing.
use Rattle.text.proofs.Laws.{then}
use Rattle.fields.specs.Fields.{deformation_text}
use Rattle.fields.proofs.Flags.{deformation}
use Rattle.fields.proofs.put_deformation.Goals as goal

pub returns : goal.returns
unfolding deformation_text
returns c = rw (← c.word_in-flags.ensures) (then _ _ _ (then _ _ _ (then _ _ _ (rw (deformation _) at c.put_flags-p.ensures) c.put_ellipsoid-q.ensures) c.put_time-r.ensures) c.put_time.ensures)
