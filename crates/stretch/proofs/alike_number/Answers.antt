-- By `same_bits_are_alike`, from what the calls ensure. Assumes nothing.
use mathlib.Core.Path.{◌∙◌}
use Rattle.stretch.proofs.Data.{same_bits_are_alike}
use Rattle.stretch.proofs.alike_number.Goals as goal

pub returns : goal.returns
returns c = c.same.ensures ∙ same_bits_are_alike _ _ c.well_formed.0.1 c.well_formed.1.0.1
