-- Invariant: the four columns are blocks whose first i elements are the four numbers of the table's
-- rows for the first i steps (`UpTo`, `row_of`). A turn writes one row more by the contract of
-- `row` (`one_more`), and at i = 16 all are written (`all_filled`). Assumes nothing.
use Prim.Native.Nat.{ℕ}
use Rattle.blocks.specs.Each.{whole_at, UpTo}
use Rattle.trig.specs.Table.{row_of}
use Rattle.trig_block.proofs.rows.Given as goal

abbrev pub invariant-loop-i : goal.invariant-loop-i
invariant-loop-i l =
    UpTo l.i l.sh (λ (j : ℕ). (row_of (whole_at l.step j)).0) × UpTo l.i l.sl (λ (j : ℕ). (row_of (whole_at l.step j)).1) × UpTo l.i l.ch (λ (j : ℕ). (row_of (whole_at l.step j)).2) × UpTo l.i l.cl (λ (j : ℕ). (row_of (whole_at l.step j)).3)
