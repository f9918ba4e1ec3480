-- A turn of the search for four digits, and of the check word. Assumes nothing.
use mathlib.Core.Path.{◌≡◌}
use Prim.Native.Nat.{ℕ, suc, ◌+◌, ◌/◌, ◌%◌, ◌<◌, ◌≤◌}
use mathlib.Core.List.{List}
use native.Mathlib.Numerals.{add-one}
use borrow.Author.Tests.{le-leb, lt-leb}
use lib.ListN.{length, drop, get_or, drop_of_length-le}
use lib.Seq.{drop-cons}
use lib.Ieee.{Float}
use Rattle.floats.specs.Binary64.{◌⊗◌}
use Rattle.decimal.specs.Places.{ten_to, whole_of}
use Rattle.closure_page.specs.Page.{places_from, heard_of, check_from}

module _ (x : Float) where
  pub places-found : (n m k : ℕ) → n ≡ suc m → 1000 ≤ whole_of (x ⊗ ten_to k) → places_from n k x ≡ k
  unfolding places_from
  places-found n m k e h = rw (e, le-leb 1000 (whole_of (x ⊗ ten_to k)) h)

  pub places-on : (n m k : ℕ) → n ≡ suc m → whole_of (x ⊗ ten_to k) < 1000 → places_from n k x ≡ places_from m (k + 1) x
  unfolding places_from
  places-on n m k e h = rw (e, lt-leb 1000 (whole_of (x ⊗ ten_to k)) h)

  pub places-end : (n k : ℕ) → n ≡ 0 → places_from n k x ≡ k
  unfolding places_from
  places-end n k e = rw e

pub check_on : (l : List ℕ) (c i : ℕ) → i < length l
    → check_from c (drop i l) ≡ check_from (heard_of (heard_of c (get_or l i 0 / 4294967296)) (get_or l i 0 % 4294967296)) (drop (i + 1) l)
unfolding check_from
check_on l c i h = rw (add-one, drop-cons l i 0 h)

pub check_end : (l : List ℕ) (c i : ℕ) → length l ≤ i → check_from c (drop i l) ≡ c
unfolding check_from
check_end l c i h = rw (drop_of_length-le l h)
