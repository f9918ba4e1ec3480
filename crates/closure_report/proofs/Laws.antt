-- What is true of closure reports, for callers to cite: a report that is rolled from zeros tells
-- what each sentence of document 02's A14 says (`Tells`), any split into calls gives the same
-- report, and sixteen numbers are a report and back. Assumes nothing.
use mathlib.Core.Path.{◌≡◌, refl, sym, ap, ◌∙◌, subst}
use Prim.Native.Nat.{ℕ, ◌+◌, ◌/◌, ◌<◌, ◌≤◌}
use mathlib.Core.Bool.{Bool, true, false, not, cond, ◌&&◌}
use mathlib.Core.List.{List, [], ◌∷◌, ◌++◌, append_assoc, append-nil}
use native.Mathlib.Omega.{arith}
use native.Mathlib.Nat.{zero-add}
use borrow.Author.Tests.{ltb-true, ltb-false, le-ltb, eq-eqb}
use lib.Dec.{ltb}
use lib.ListN.{length, length-append}
use lib.Ieee.{Float, binary64, to_bits}
use Rattle.floats.specs.Number.{same_of}
use Rattle.tuple.specs.declared.Tuple.{Tuple}
use Rattle.closure_report.specs.declared.Report.{Report}
use Rattle.closure_report.specs.Report.{Closing, Pair, most, one_more, lost_in, restored_in, left_in, is_lost, is_restored, difference_of, seen_of, fixes_of, seen_all, list_done, added_of, rolled_of, empty_report, numbers_of, report_of}
use Rattle.closure_report.specs.Sentences.{all_fixes, capped, number_of, only_restored, rest_of, IsLargest, Tells}
use Rattle.closure_report.proofs.Telling.{seen-told, done_told}

-- ---- any split

-- Lists rolled in one after another give the same report, wherever the calls are parted.
pub any_split_gives_the_same_report : (r : Report) (ps qs : List Pair) → rolled_of r (ps ++ qs) ≡ rolled_of (rolled_of r ps) qs
unfolding rolled_of
any_split_gives_the_same_report r [] qs = refl
any_split_gives_the_same_report r (p ∷ ps) qs = any_split_gives_the_same_report (added_of r p.start p.end) ps qs

-- ---- each number tells its sentence

empty_tells : Tells empty_report 0 []
unfolding number_of rest_of
empty_tells =
    record {
      lists-seen = refl;
      tuples-seen = refl;
      nan-at-start-or-end = refl;
      restored-bit-for-bit = refl;
      largest-of-x = IsLargest.none_left refl refl;
      largest-of-y = IsLargest.none_left refl refl;
      largest-of-z = IsLargest.none_left refl refl;
      largest-of-t = IsLargest.none_left refl refl;
    }

all_told : (r : Report) (lists : ℕ) (fs gs : List Closing) → Tells r lists fs → length fs + length gs ≤ most → Tells (seen_all r gs) lists (fs ++ gs)
unfolding seen_all
all_told r lists fs [] told room = rw (append-nil fs) told
all_told r lists fs (g ∷ gs) told room =
    let longer = length-append fs (g ∷ []) in
    subst (λ (l : List Closing). Tells (seen_all (seen_of r g) gs) lists l) (append_assoc fs (g ∷ []) gs)
    (all_told (seen_of r g) lists (fs ++ (g ∷ [])) gs (seen-told r lists fs g told (omega arith)) (omega arith))

module _ (r : Report) (lists : ℕ) (fs : List Closing) (p : Pair) (told : Tells r lists fs) (few : lists < most) where
  abbrev its-fixes : List Closing
  its-fixes = fixes_of lists p.start p.end (length p.start / 4) 0

  added-told : length fs + length its-fixes ≤ most → Tells (added_of r p.start p.end) (lists + 1) (fs ++ its-fixes)
  unfolding added_of
  added-told room =
      subst (λ (n : ℕ). Tells (list_done (seen_all r (fixes_of n p.start p.end (length p.start / 4) 0))) (lists + 1) (fs ++ its-fixes)) (sym told.lists-seen)
      (done_told (seen_all r its-fixes) lists (fs ++ its-fixes) (all_told r lists fs its-fixes told room) few)

rolled_told : (r : Report) (lists : ℕ) (fs : List Closing) (ps : List Pair) → Tells r lists fs → lists + length ps ≤ most
    → length fs + length (all_fixes lists ps) ≤ most → Tells (rolled_of r ps) (lists + length ps) (fs ++ all_fixes lists ps)
unfolding rolled_of all_fixes
rolled_told r lists fs [] told few room = rw (append-nil fs) (subst (λ (n : ℕ). Tells r n fs) (omega arith) told)
rolled_told r lists fs (p ∷ ps) told few room =
    let now = fixes_of lists p.start p.end (length p.start / 4) 0 in
    let later = all_fixes (lists + 1) ps in
    let both = length-append now later in
    let longer = length-append fs now in
    let count : lists + 1 + length ps ≡ lists + length (p ∷ ps) = omega arith in
    subst (λ (n : ℕ). Tells (rolled_of (added_of r p.start p.end) ps) n (fs ++ (now ++ later))) count
    (subst (λ (l : List Closing). Tells (rolled_of (added_of r p.start p.end) ps) (lists + 1 + length ps) l) (append_assoc fs now later)
    (rolled_told (added_of r p.start p.end) (lists + 1) (fs ++ now) ps
    (added-told r lists fs p told (omega arith) (omega arith)) (omega arith) (omega arith)))

-- A report rolled from zeros over fewer than 2^64 lists and tuples tells what each sentence says of
-- all their fixes.
pub report_tells : (ps : List Pair) → length ps ≤ most → length (all_fixes 0 ps) ≤ most → Tells (rolled_of empty_report ps) (length ps) (all_fixes 0 ps)
report_tells ps few room =
    subst (λ (n : ℕ). Tells (rolled_of empty_report ps) n (all_fixes 0 ps)) (zero-add (length ps))
    (rolled_told empty_report 0 [] ps empty_tells (omega arith) (omega arith))

module _ (ps : List Pair) (few : length ps ≤ most) (room : length (all_fixes 0 ps) ≤ most) where
  abbrev report : Report
  report = rolled_of empty_report ps

  -- "the tuples seen"
  pub tuples-seen : report.tuples ≡ length (all_fixes 0 ps)
  tuples-seen = (report_tells ps few room).tuples-seen

  -- "those with a NaN at start or end (counted only there)"
  pub nan-at-start-or-end : report.nans ≡ number_of is_lost (all_fixes 0 ps)
  nan-at-start-or-end = (report_tells ps few room).nan-at-start-or-end

  -- "those restored bit for bit"
  pub restored-bit-for-bit : report.restored ≡ number_of only_restored (all_fixes 0 ps)
  restored-bit-for-bit = (report_tells ps few room).restored-bit-for-bit

  -- "per coordinate the largest absolute difference as bits among the rest, with its list and
  -- index, the earliest on ties; with none left, 0 at list 0, index 0"
  pub largest-among-the-rest-of-x : IsLargest (λ (v : Tuple). v.x) (rest_of (all_fixes 0 ps)) report.x
  largest-among-the-rest-of-x = (report_tells ps few room).largest-of-x

  pub largest-among-the-rest-of-y : IsLargest (λ (v : Tuple). v.y) (rest_of (all_fixes 0 ps)) report.y
  largest-among-the-rest-of-y = (report_tells ps few room).largest-of-y

  pub largest-among-the-rest-of-z : IsLargest (λ (v : Tuple). v.z) (rest_of (all_fixes 0 ps)) report.z
  largest-among-the-rest-of-z = (report_tells ps few room).largest-of-z

  pub largest-among-the-rest-of-t : IsLargest (λ (v : Tuple). v.t) (rest_of (all_fixes 0 ps)) report.t
  largest-among-the-rest-of-t = (report_tells ps few room).largest-of-t

-- "a coordinate equal in bits differs by 0"
pub equal_in_bits_differs_by_0 : (a b : Float) → to_bits binary64 a ≡ to_bits binary64 b → difference_of a b ≡ 0
unfolding difference_of same_of
equal_in_bits_differs_by_0 a b e = rw (eq-eqb (to_bits binary64 a) (to_bits binary64 b) e)

-- ---- sums that would pass 2^64

below_cap : (n : ℕ) → n ≤ most → capped n ≡ n
unfolding capped
below_cap n h = by-case (ltb n most) refl
  where
    by-case : (b : Bool) → ltb n most ≡ b → cond b n most ≡ n
    by-case true e = refl
    by-case false e = let k = ltb-false n most e in omega arith

at_cap : (n : ℕ) → most ≤ n → capped n ≡ most
unfolding capped
at_cap n h = rw (le-ltb n most h)

cap_on : (n k : ℕ) → n ≤ most → capped (one_more n + k) ≡ capped (n + (1 + k))
cap_on n k h = by-case (ltb n most) refl
  where
    by-case : (b : Bool) → ltb n most ≡ b → capped (one_more n + k) ≡ capped (n + (1 + k))
    by-case true e = let s : n + 1 + k ≡ n + (1 + k) = omega arith in rw e (ap capped s)
    by-case false e =
        let l = ltb-false n most e in
        rw e (at_cap (n + k) (omega arith) ∙ sym (at_cap (n + (1 + k)) (omega arith)))

within_cap : (n : ℕ) → n ≤ most → one_more n ≤ most
within_cap n h = by-case (ltb n most) refl
  where
    by-case : (b : Bool) → ltb n most ≡ b → cond b (n + 1) n ≤ most
    by-case true e = let k = ltb-true n most e in omega arith
    by-case false e = h

-- a number that grows by one at each fix of a kind
module _ (field : Report → ℕ) (p : Closing → Bool) (grows : (r : Report) (f : Closing) → field (seen_of r f) ≡ cond (p f) (one_more (field r)) (field r)) where
  one-capped : (b : Bool) (n k : ℕ) → n ≤ most → capped (cond b (one_more n) n + k) ≡ capped (n + (cond b 1 0 + k))
  one-capped true n k h = cap_on n k h
  one-capped false n k h = ap (λ (m : ℕ). capped (n + m)) (sym (zero-add k))

  one-within : (b : Bool) (n : ℕ) → n ≤ most → cond b (one_more n) n ≤ most
  one-within true n h = within_cap n h
  one-within false n h = h

  sum-capped : (r : Report) (fs : List Closing) → field r ≤ most → field (seen_all r fs) ≡ capped (field r + number_of p fs)
  unfolding seen_all number_of
  sum-capped r [] h = let s : field r ≡ field r + 0 = omega arith in sym (below_cap (field r) h) ∙ ap capped s
  sum-capped r (f ∷ fs) h =
      sum-capped (seen_of r f) fs (rw (grows r f) (one-within (p f) (field r) h))
      ∙ rw (grows r f) (one-capped (p f) (field r) (number_of p fs) h)

tuple_grows : (r : Report) (f : Closing) → (seen_of r f).tuples ≡ one_more r.tuples
unfolding seen_of lost_in restored_in left_in
tuple_grows r f = by-case (is_lost f) (is_restored f)
  where
    by-case : (a b : Bool) → (cond a (lost_in r) (cond b (restored_in r) (left_in r f))).tuples ≡ one_more r.tuples
    by-case true b = refl
    by-case false true = refl
    by-case false false = refl

nan_grows : (r : Report) (f : Closing) → (seen_of r f).nans ≡ cond (is_lost f) (one_more r.nans) r.nans
unfolding seen_of lost_in restored_in left_in
nan_grows r f = by-case (is_lost f) (is_restored f)
  where
    by-case : (a b : Bool) → (cond a (lost_in r) (cond b (restored_in r) (left_in r f))).nans ≡ cond a (one_more r.nans) r.nans
    by-case true b = refl
    by-case false true = refl
    by-case false false = refl

restored_grows : (r : Report) (f : Closing) → (seen_of r f).restored ≡ cond (only_restored f) (one_more r.restored) r.restored
unfolding seen_of lost_in restored_in left_in
restored_grows r f = by-case (is_lost f) (is_restored f)
  where
    by-case : (a b : Bool) → (cond a (lost_in r) (cond b (restored_in r) (left_in r f))).restored ≡ cond (not a && b) (one_more r.restored) r.restored
    by-case true b = refl
    by-case false true = refl
    by-case false false = refl

-- Whatever a report holds, each sum is that of the numbers, or 2^64 - 1 where the sum passes it.
module _ (r : Report) (fs : List Closing) where
  pub tuples-capped : r.tuples ≤ most → (seen_all r fs).tuples ≡ capped (r.tuples + number_of (λ (f : Closing). true) fs)
  tuples-capped = sum-capped (λ (q : Report). q.tuples) (λ (f : Closing). true) tuple_grows r fs

  pub nans-capped : r.nans ≤ most → (seen_all r fs).nans ≡ capped (r.nans + number_of is_lost fs)
  nans-capped = sum-capped (λ (q : Report). q.nans) is_lost nan_grows r fs

  pub restored-capped : r.restored ≤ most → (seen_all r fs).restored ≡ capped (r.restored + number_of only_restored fs)
  restored-capped = sum-capped (λ (q : Report). q.restored) only_restored restored_grows r fs

-- ---- sixteen numbers

-- zeros are the empty report
pub zeros_are_empty : report_of (numbers_of empty_report) ≡ empty_report
unfolding report_of numbers_of
zeros_are_empty = refl

-- a report comes back from its numbers
pub report_comes_back : (r : Report) → report_of (numbers_of r) ≡ r
unfolding report_of numbers_of
report_comes_back r = refl
