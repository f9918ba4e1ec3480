-- A turn of the loop over a list, and a sum taken as a difference. Assumes nothing.
use mathlib.Core.Path.{◌≡◌, refl}
use Prim.Native.Nat.{ℕ, suc, ◌+◌, ◌-◌, ◌*◌}
use mathlib.Core.Bool.{Bool, true, false}
use mathlib.Core.List.{List}
use native.Mathlib.Omega.{arith}
use borrow.Author.Tests.{ltb-true, ltb-false, lt-ltb, le-ltb}
use lib.Dec.{ltb}
use lib.Ieee.{Float}
use Rattle.lists.specs.Flat.{tuple_at}
use Rattle.closure_report.specs.declared.Report.{Report}
use Rattle.closure_report.specs.Report.{closing, seen_of, fixes_of, seen_all}

-- what is above both together is above the one by more than the other
pub by_difference : (a b n : ℕ) → ltb b (n - a) ≡ ltb (a + b) n
by_difference a b n = by-case (ltb (a + b) n) refl
  where
    by-case : (c : Bool) → ltb (a + b) n ≡ c → ltb b (n - a) ≡ c
    by-case true e = let k = ltb-true (a + b) n e in lt-ltb b (n - a) (omega arith)
    by-case false e = let k = ltb-false (a + b) n e in le-ltb b (n - a) (omega arith)

module _ (list : ℕ) (start end : List Float) where
  -- the next fix is seen
  pub seen-on : (n k i : ℕ) (r q : Report) → n ≡ suc k → q ≡ seen_of r (closing list i (tuple_at start (4 * i)) (tuple_at end (4 * i)))
      → seen_all r (fixes_of list start end n i) ≡ seen_all q (fixes_of list start end k (i + 1))
  unfolding seen_all fixes_of
  seen-on n k i r q e p = rw (e, p)

  -- no fix is left
  pub seen_end : (n i : ℕ) (r : Report) → n ≡ 0 → seen_all r (fixes_of list start end n i) ≡ r
  unfolding seen_all fixes_of
  seen_end n i r e = rw e
