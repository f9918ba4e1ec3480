-- Calls are replaced by what they ensure; the definition is left. Assumes nothing.
use Rattle.show.proofs.put_count.Goals as goal

pub returns : goal.returns
returns c = rw (← c.long.ensures) c.put_decimal.ensures
