-- The offsets dlam and dphi are written over the columns that they are computed from, and dh over
-- zeros. Invariant: the first i elements of the three are the offsets of the columns as they stood
-- at the start (`full_at`), and the others of dlam and dphi are as they stood (`Over`; `UpTo` for
-- dh). So what a turn reads is what stood there (`still`), and it writes one offset more in each
-- column (`one_more_over`, `one_more`). At i = 16 every element is an offset (`all_filled`).
-- Assumes nothing.
use Prim.Native.Nat.{ℕ}
use Rattle.blocks.specs.Each.{UpTo}
use Rattle.molodensky_block.specs.Block.{full_at}
use Rattle.blocks.proofs.Over.{Over}
use Rattle.molodensky_block.proofs.full_shifts.Given as goal

abbrev pub invariant-loop-i : goal.invariant-loop-i
invariant-loop-i l =
    Over l.i l.initial.dlam l.dlam (λ (j : ℕ). (full_at l.op l.h l.initial.dlam l.initial.dphi l.sphi l.cphi l.q j).dlam)
    × Over l.i l.initial.dphi l.dphi (λ (j : ℕ). (full_at l.op l.h l.initial.dlam l.initial.dphi l.sphi l.cphi l.q j).dphi)
    × UpTo l.i l.dh (λ (j : ℕ). (full_at l.op l.h l.initial.dlam l.initial.dphi l.sphi l.cphi l.q j).dh)
