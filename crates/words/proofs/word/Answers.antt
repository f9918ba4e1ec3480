-- By arithmetic on what each byte is worth. Assumes nothing.
use native.Mathlib.Omega.{arith}
use native.Mathlib.Nat.{add_assoc}
use Rattle.words.specs.Words.{word32}
use Rattle.words.proofs.word.Goals as goal

pub returns : goal.returns
unfolding word32
returns c = simp add_assoc (omega arith)
