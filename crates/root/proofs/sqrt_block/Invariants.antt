-- The first loop's invariant: g is a block whose first i elements are guesses, of which no more is
-- known than that they have 53 digits (`Guesses`); a turn adds one by the contract of `guess`
-- (`one-guess-more`). The second loop's invariant: r is a block whose first j elements are the
-- roots of those of x (`UpTo`); a turn adds one, since `from_guess` gives the root from any such
-- guess (`one_more`). At j = 16 all are roots (`all_filled`). Assumes nothing.
use Rattle.std.proofs.Common.{◌≡◌, ℕ, ◌<◌, List, length}
use Rattle.blocks.specs.Each.{at, whole_at, UpTo}
use Rattle.root.specs.Sqrt.{sqrt_of}
use Rattle.root.specs.Whole.{Digits}
use Rattle.root.proofs.sqrt_block.Given as goal

-- l is a block, and its first n places hold guesses
pub record Guesses (n : ℕ) (l : List ℕ) : Type 0 where
  pub block : length l ≡ 16
  pub held : (j : ℕ) → j < n → Digits (whole_at l j)

abbrev pub invariant-loop-i : goal.invariant-loop-i
invariant-loop-i l = Guesses l.i l.g

abbrev pub invariant-loop-j : goal.invariant-loop-j
invariant-loop-j l = UpTo l.j l.r (λ (k : ℕ). sqrt_of (at l.x k))
