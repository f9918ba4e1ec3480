-- Invariant: the first i elements of d are those of x with the offsets that d held at the start
-- added, or subtracted in an inverse run, and the others are still those offsets (`Over`). So a turn
-- reads the offset that stood there (`still`) and writes one element more (`one_more_over`). At
-- i = 16 all are written (`all_over`). Assumes nothing.
use Prim.Native.Nat.{ℕ}
use mathlib.Core.Bool.{cond}
use Rattle.floats.specs.Binary64.{◌⊕◌, ◌⊖◌}
use Rattle.blocks.specs.Each.{at}
use Rattle.blocks.proofs.Over.{Over}
use Rattle.molodensky_block.proofs.moved.Given as goal

abbrev pub invariant-loop-i : goal.invariant-loop-i
invariant-loop-i l = Over l.i l.initial.d l.d (λ (j : ℕ). cond l.inverse (at l.x j ⊖ at l.initial.d j) (at l.x j ⊕ at l.initial.d j))
