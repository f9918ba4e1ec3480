-- By `then`, from what the calls ensure. Assumes nothing.
use Rattle.text.proofs.Laws.{then}
use Rattle.fields.specs.Fields.{angles_text}
use Rattle.fields.proofs.put_angles.Goals as goal

pub returns : goal.returns
unfolding angles_text
returns c = rw (← c.angle_unit-unit.ensures) (then _ _ _ c.put_series-p.ensures c.put_series.ensures)
