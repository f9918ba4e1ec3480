-- Invariant: the first i elements of oz are the heights z with the lifts at the sines s added, or
-- subtracted in an inverse run (`UpTo`, `shifted_of`). A turn writes one more by the contract of
-- `height` (`one_more`), and at i = 16 all are written (`all_filled`). Assumes nothing.
use Prim.Native.Nat.{ℕ}
use Rattle.blocks.specs.Each.{at, UpTo}
use Rattle.permtide.specs.Step.{height_of, shifted_of}
use Rattle.permtide.proofs.shifted.Given as goal

abbrev pub invariant-loop-i : goal.invariant-loop-i
invariant-loop-i l = UpTo l.i l.oz (λ (j : ℕ). shifted_of l.inverse (at l.z j) (height_of l.op (at l.s j)))
