-- The entry's first word. Assumes nothing.
use native.Mathlib.Nat.{add-zero}
use Rattle.sheet.proofs.kind_at.Goals as goal

pub returns : goal.returns
returns c = rw add-zero at c.entry_word.ensures
