-- Calls are replaced by what they ensure; the definition is left. Assumes nothing.
use Rattle.text.specs.Digits.{hex_of}
use Rattle.text.proofs.put_hex.Goals as goal

pub returns : goal.returns
unfolding hex_of
returns c = c.put_digits.ensures
