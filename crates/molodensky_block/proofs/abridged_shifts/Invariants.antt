-- The offsets are written over three columns that they are computed from. Invariant: the first i
-- elements of dlam, dphi and dh are the offsets of the columns as they stood at the start
-- (`abridged_at`), and the others are as they stood (`Over`). So what a turn reads is what stood
-- there (`still`), and it writes one offset more in each column (`one_more_over`). At i = 16 every
-- element is an offset (`all_filled`). Assumes nothing.
use Prim.Native.Nat.{ℕ}
use Rattle.molodensky_block.specs.Block.{abridged_at}
use Rattle.blocks.proofs.Over.{Over}
use Rattle.molodensky_block.proofs.abridged_shifts.Given as goal

abbrev pub invariant-loop-i : goal.invariant-loop-i
invariant-loop-i l =
    Over l.i l.initial.dlam l.dlam (λ (j : ℕ). (abridged_at l.op l.initial.dh l.initial.dlam l.initial.dphi l.sphi l.cphi l.q j).dlam)
    × Over l.i l.initial.dphi l.dphi (λ (j : ℕ). (abridged_at l.op l.initial.dh l.initial.dlam l.initial.dphi l.sphi l.cphi l.q j).dphi)
    × Over l.i l.initial.dh l.dh (λ (j : ℕ). (abridged_at l.op l.initial.dh l.initial.dlam l.initial.dphi l.sphi l.cphi l.q j).dh)
