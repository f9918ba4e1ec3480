-- Calls are replaced by what they ensure; the definition is left. Assumes nothing.
use native.Mathlib.Nat.{add-zero}
use Rattle.words.proofs.read32.Goals as goal

pub returns : goal.returns
returns c = rw (c.word.ensures, add-zero)
