-- Sixteen rows from an index on, as the flat list that the columns stand for has them: whether they
-- stand there, and a row of them read and put. Assumes nothing.
use Prim.Native.Nat.{ℕ, ◌+◌, ◌*◌, ◌-◌, ◌≤◌, ◌<◌}
use native.Mathlib.Omega.{arith}
use mathlib.Core.Path.{◌≡◌, refl, sym, ap, ◌∙◌}
use mathlib.Core.Bool.{Bool, true, false, ◌&&◌, true≢false}
use mathlib.Core.List.{List}
use borrow.Author.Tests.{leb-true, leb-false, le-leb, lt-leb}
use lib.Dec.{leb}
use lib.ListN.{length, set, length-set}
use lib.Ieee.{Float}
use Rattle.blocks.specs.Each.{at, Each}
use Rattle.tuple.specs.declared.Tuple.{Tuple}
use Rattle.tuple.specs.Columns.{row_of}
use Rattle.lists.specs.Flat.{tuple_at, put_at}
use Rattle.lists.specs.Sixteen.{row_at, put_rows}
use Rattle.lists.proofs.Sixteen as sixteen
use Rattle.columns.specs.Columns.{Level, level_of, flat_of}
use Rattle.columns.proofs.Laws.{level_told, flat-length, flat-uneven, row-there, row-time, row-set, point-set}

-- ---- whether they stand there

-- a test of both
both : (a b : Bool) → (a && b) ≡ true → (a ≡ true) × (b ≡ true)
both true b e = (refl, e)
both false b e = absurd (true≢false (sym e))

pub block_told : (x y z t : List Float) (i : ℕ) → (level_of x y z t && leb (i + 16) (length x)) ≡ true → Level x y z t × (i + 16 ≤ length x)
block_told x y z t i e = let h = both (level_of x y z t) (leb (i + 16) (length x)) e in (level_told x y z t h.0, leb-true _ _ h.1)

-- where they do not, the flat list ends before the last of them
pub no_block : (x y z t : List Float) (i : ℕ) → (level_of x y z t && leb (i + 16) (length x)) ≡ false → length (flat_of x y z t) < 4 * i + 64
no_block x y z t i e = by (level_of x y z t) refl
  where
    by : (b : Bool) → level_of x y z t ≡ b → length (flat_of x y z t) < 4 * i + 64
    by true p = rw (flat-length x y z t (level_told x y z t p)) (omega (arith, leb-false (i + 16) (length x) (rw p at e)))
    by false p = rw (flat-uneven x y z t p) (omega arith)

-- the test as the code makes it, without a sum that could overflow
pub within : (i n : ℕ) → leb 16 (n - i) ≡ leb (i + 16) n
within i n = by (leb (i + 16) n) refl
  where
    by : (b : Bool) → leb (i + 16) n ≡ b → leb 16 (n - i) ≡ b
    by true e = le-leb 16 (n - i) (omega (arith, leb-true (i + 16) n e))
    by false e = lt-leb 16 (n - i) (omega (arith, leb-false (i + 16) n e))

-- ---- where they stand

-- columns of one length stay so when a row is set
pub still_level : (x y z t : List Float) → Level x y z t → (i : ℕ) (v : Tuple) → Level (set x i v.x) (set y i v.y) (set z i v.z) (set t i v.t)
still_level x y z t h i v = rw (length-set x i v.x, length-set y i v.y, length-set z i v.z, length-set t i v.t) h

module _ (x y z t : List Float) (h : Level x y z t) (i : ℕ) (k : i + 16 ≤ length x) where
  pub block_room : 4 * i + 64 ≤ length (flat_of x y z t)
  block_room = rw (flat-length x y z t h) (omega (arith, k))

  -- the tuple at an index of the sixteen is a row of the block
  pub block_row : (j : ℕ) → tuple_at (flat_of x y z t) (4 * (i + j)) ≡ row_at (flat_of x y z t) (4 * i) j
  block_row j =
      let e : 4 * (i + j) ≡ 4 * i + 4 * j = omega arith in
      rw e (sym (sixteen.row-there (flat_of x y z t) (4 * i) block_room j))

  -- and the columns' numbers there are that row
  pub block_read : (j : ℕ) → j < 16 → row_of x y z t (i + j) ≡ row_at (flat_of x y z t) (4 * i) j
  block_read j few = row-there x y z t h (i + j) (omega (arith, k, few)) ∙ block_row j

  -- the times that a block holds are those of the column
  pub block-time : {bt : List Float} → Each bt (λ (j : ℕ). (row_at (flat_of x y z t) (4 * i) j).t) → (j : ℕ) → j < 16 → at bt j ≡ at t (i + j)
  block-time e j few =
      e.held j few ∙ sym (ap (λ (v : Tuple). v.t) (block_row j)) ∙ row-time x y z t h (i + j) (omega (arith, k, few))

  -- one more row of the blocks put into the columns, as they stand after j rows
  module _ (x' y' z' t' bx by bz bt : List Float) (h' : Level x' y' z' t') (long : length x' ≡ length x) (j : ℕ) (few : j < 16) where
    next_row : flat_of x' y' z' t' ≡ put_rows (flat_of x y z t) (4 * i) (row_of bx by bz bt) j
        → put_at (flat_of x' y' z' t') (4 * (i + j)) (row_of bx by bz bt j) ≡ put_rows (flat_of x y z t) (4 * i) (row_of bx by bz bt) (j + 1)
    next_row e =
        let place : 4 * (i + j) ≡ 4 * i + 4 * j = omega arith in
        rw (place, e) (sixteen.row_put (flat_of x y z t) (4 * i) (row_of bx by bz bt) j)

    pub block-set : flat_of x' y' z' t' ≡ put_rows (flat_of x y z t) (4 * i) (row_of bx by bz bt) j
        → flat_of (set x' (i + j) (at bx j)) (set y' (i + j) (at by j)) (set z' (i + j) (at bz j)) (set t' (i + j) (at bt j))
        ≡ put_rows (flat_of x y z t) (4 * i) (row_of bx by bz bt) (j + 1)
    block-set e = row-set x' y' z' t' h' (i + j) (omega (arith, k, few, long)) (row_of bx by bz bt j) ∙ next_row e

    -- where the time is the one that stands, it need not be put
    pub block-point : at bt j ≡ at t' (i + j) → flat_of x' y' z' t' ≡ put_rows (flat_of x y z t) (4 * i) (row_of bx by bz bt) j
        → flat_of (set x' (i + j) (at bx j)) (set y' (i + j) (at by j)) (set z' (i + j) (at bz j)) t'
        ≡ put_rows (flat_of x y z t) (4 * i) (row_of bx by bz bt) (j + 1)
    block-point time e = point-set x' y' z' t' h' (i + j) (omega (arith, k, few, long)) (row_of bx by bz bt j) time ∙ next_row e
