-- By `then`, from what the calls ensure. Assumes nothing.
use Rattle.text.proofs.Laws.{then}
use Rattle.fields.specs.Fields.{badekas_numbers}
use Rattle.fields.proofs.put_badekas_numbers.Goals as goal

pub returns : goal.returns
unfolding badekas_numbers
returns c = rw (← c.length_unit-length.ensures, ← c.angle_unit-angle.ensures) (then _ _ _ (then _ _ _ (then _ _ _ c.put_three-p.ensures c.put_three-q.ensures) c.put_one-r.ensures) c.put_three.ensures)
