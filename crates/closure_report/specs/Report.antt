-- The closure report of document 02's A14, fix by fix: which number takes a fix in, and what the
-- difference of a coordinate is. Numbers are those of 64 bits; a sum that would pass the largest
-- stays there.
use Rattle.std.specs.Prelude.{ℕ, zero, suc, ◌+◌, ◌*◌, ◌/◌, Bool, not, cond, ◌&&◌, ◌||◌, List, [], ◌∷◌, ltb, length, get_or, Float}
use Rattle.std.specs.Float.{binary64}
use Rattle.std.specs.Float.Ieee.{to_bits}
use Rattle.floats.specs.Binary64.{◌⊖◌}
use Rattle.floats.specs.Number.{abs_of, same_of}
use Rattle.tuple.specs.declared.Tuple.{Tuple}
use Rattle.tuple.specs.Sums.{any_nan_of}
use Rattle.lists.specs.Flat.{tuple_at}
use Rattle.closure_report.specs.declared.Largest.{Largest}
use Rattle.closure_report.specs.declared.Report.{Report}

-- ---- sums

-- 2^64 - 1
abbrev pub most : ℕ
most = 18446744073709551615

abbrev pub one_more : ℕ → ℕ
one_more n = cond (ltb n most) (n + 1) n

-- ---- one fix

-- "a NaN at start or end", in any of the four numbers
unfoldable pub lost_of : Tuple → Tuple → Bool
lost_of start end = any_nan_of start || any_nan_of end

-- "restored bit for bit", in all four numbers
unfoldable pub restored_of : Tuple → Tuple → Bool
restored_of start end =
    same_of start.x end.x && same_of start.y end.y && same_of start.z end.z && same_of start.t end.t

-- "absolute difference as bits": end less start, one rounding, its sign taken off; "a coordinate
-- equal in bits differs by 0"
unfoldable pub difference_of : Float → Float → ℕ
difference_of start end = cond (same_of start end) 0 (to_bits binary64 (abs_of (end ⊖ start)))

-- a fix of a closure: the number of its list, its index there, and its tuple at start and end
pub record Closing : Type 0 where
  pub list : ℕ
  pub index : ℕ
  pub start : Tuple
  pub end : Tuple

abbrev pub closing : ℕ → ℕ → Tuple → Tuple → Closing
closing list index start end = record { list = list; index = index; start = start; end = end }

abbrev pub is_lost : Closing → Bool
is_lost f = lost_of f.start f.end

abbrev pub is_restored : Closing → Bool
is_restored f = restored_of f.start f.end

-- ---- the report with one fix more

-- whether a fix that is neither lost nor restored has been seen before
unfoldable pub some_left : Report → Bool
some_left r = ltb (r.nans + r.restored) r.tuples

-- the larger difference with its list and index, "the earliest on ties"; the first is taken as it
-- is, 0 too
unfoldable pub larger_of : Bool → Largest → ℕ → ℕ → ℕ → Largest
larger_of some before bits list index =
    cond (not some || ltb before.bits bits) (record { bits = bits; list = list; index = index }) before

-- "counted only there"
unfoldable pub lost_in : Report → Report
lost_in r =
    record {
      lists = r.lists;
      tuples = one_more r.tuples;
      nans = one_more r.nans;
      restored = r.restored;
      x = r.x;
      y = r.y;
      z = r.z;
      t = r.t;
    }

unfoldable pub restored_in : Report → Report
restored_in r =
    record {
      lists = r.lists;
      tuples = one_more r.tuples;
      nans = r.nans;
      restored = one_more r.restored;
      x = r.x;
      y = r.y;
      z = r.z;
      t = r.t;
    }

-- "among the rest": such a fix takes part in all four coordinates
unfoldable pub left_in : Report → Closing → Report
left_in r f =
    record {
      lists = r.lists;
      tuples = one_more r.tuples;
      nans = r.nans;
      restored = r.restored;
      x = larger_of (some_left r) r.x (difference_of f.start.x f.end.x) f.list f.index;
      y = larger_of (some_left r) r.y (difference_of f.start.y f.end.y) f.list f.index;
      z = larger_of (some_left r) r.z (difference_of f.start.z f.end.z) f.list f.index;
      t = larger_of (some_left r) r.t (difference_of f.start.t f.end.t) f.list f.index;
    }

unfoldable pub seen_of : Report → Closing → Report
seen_of r f = cond (is_lost f) (lost_in r) (cond (is_restored f) (restored_in r) (left_in r f))

-- ---- a list, and many

-- n fixes of a list from index k on
unfoldable pub fixes_of : ℕ → List Float → List Float → ℕ → ℕ → List Closing
fixes_of list start end zero k = []
fixes_of list start end (suc n) k =
    closing list k (tuple_at start (4 * k)) (tuple_at end (4 * k)) ∷ fixes_of list start end n (k + 1)

-- fix after fix
unfoldable pub seen_all : Report → List Closing → Report
seen_all r [] = r
seen_all r (f ∷ fs) = seen_all (seen_of r f) fs

-- one list more
unfoldable pub list_done : Report → Report
list_done r =
    record {
      lists = one_more r.lists;
      tuples = r.tuples;
      nans = r.nans;
      restored = r.restored;
      x = r.x;
      y = r.y;
      z = r.z;
      t = r.t;
    }

-- A list added to a report, as it was at the start and as it came back at the end. Its number is
-- how many lists the report has before it.
unfoldable pub added_of : Report → List Float → List Float → Report
added_of r start end = list_done (seen_all r (fixes_of r.lists start end (length start / 4) 0))

-- a list at its start and at its end
pub record Pair : Type 0 where
  pub start : List Float
  pub end : List Float

-- many lists, one after another
unfoldable pub rolled_of : Report → List Pair → Report
rolled_of r [] = r
rolled_of r (p ∷ ps) = rolled_of (added_of r p.start p.end) ps

-- ---- as sixteen numbers

-- nothing seen: "0 at list 0, index 0"
abbrev pub no_largest : Largest
no_largest = record { bits = 0; list = 0; index = 0 }

-- the empty report
abbrev pub empty_report : Report
empty_report = record { lists = 0; tuples = 0; nans = 0; restored = 0; x = no_largest; y = no_largest; z = no_largest; t = no_largest }

-- lists, tuples, NaNs, restored; then bits, list and index of each coordinate
unfoldable pub numbers_of : Report → List ℕ
numbers_of r =
    r.lists ∷ r.tuples ∷ r.nans ∷ r.restored
    ∷ r.x.bits ∷ r.x.list ∷ r.x.index
    ∷ r.y.bits ∷ r.y.list ∷ r.y.index
    ∷ r.z.bits ∷ r.z.list ∷ r.z.index
    ∷ r.t.bits ∷ r.t.list ∷ r.t.index ∷ []

abbrev pub largest_at : List ℕ → ℕ → Largest
largest_at l i = record { bits = get_or l i 0; list = get_or l (i + 1) 0; index = get_or l (i + 2) 0 }

-- the report that sixteen numbers stand for
unfoldable pub report_of : List ℕ → Report
report_of l =
    record {
      lists = get_or l 0 0;
      tuples = get_or l 1 0;
      nans = get_or l 2 0;
      restored = get_or l 3 0;
      x = largest_at l 4;
      y = largest_at l 7;
      z = largest_at l 10;
      t = largest_at l 13;
    }
