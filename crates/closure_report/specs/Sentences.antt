-- The sentences of document 02's A14, each as a statement over all fixes that were seen, without a
-- running report: what a report has to tell. proofs/Laws.antt shows that it does.
use Rattle.std.specs.Prelude.{◌≡◌, ℕ, ◌+◌, ◌/◌, ◌<◌, ◌≤◌, Bool, not, cond, ◌&&◌, List, [], ◌∷◌, ◌++◌, ltb, length, Float}
use Rattle.tuple.specs.declared.Tuple.{Tuple}
use Rattle.closure_report.specs.declared.Largest.{Largest}
use Rattle.closure_report.specs.declared.Report.{Report}
use Rattle.closure_report.specs.Report.{Closing, Pair, most, no_largest, is_lost, is_restored, difference_of, fixes_of}

-- every fix of many lists, in order; the first list has the number j
unfoldable pub all_fixes : ℕ → List Pair → List Closing
all_fixes j [] = []
all_fixes j (p ∷ ps) = fixes_of j p.start p.end (length p.start / 4) 0 ++ all_fixes (j + 1) ps

-- how many fixes are so
unfoldable pub number_of : (Closing → Bool) → List Closing → ℕ
number_of p [] = 0
number_of p (f ∷ fs) = cond (p f) 1 0 + number_of p fs

-- a sum, which stays at 2^64 - 1 where it passes it
unfoldable pub capped : ℕ → ℕ
capped n = cond (ltb n most) n most

-- restored, and not among those with a NaN, which are "counted only there"
abbrev pub only_restored : Closing → Bool
only_restored f = not (is_lost f) && is_restored f

-- "the rest": neither
abbrev pub is_left : Closing → Bool
is_left f = not (is_lost f) && not (is_restored f)

unfoldable pub rest_of : List Closing → List Closing
rest_of [] = []
rest_of (f ∷ fs) = cond (is_left f) (f ∷ rest_of fs) (rest_of fs)

-- a coordinate's difference at a fix
abbrev pub difference_at : (Tuple → Float) → Closing → ℕ
difference_at coordinate f = difference_of (coordinate f.start) (coordinate f.end)

-- every fix of a list is so
pub data All (P : Closing → Type 0) : List Closing → Type 0 where
  none : All P []
  next : {f : Closing} {fs : List Closing} → P f → All P fs → All P (f ∷ fs)

-- The largest difference of a coordinate stands at one of the fixes: every fix before it differs by
-- less, so that it is "the earliest on ties", and every fix after it by no more.
pub record StandsAt (coordinate : Tuple → Float) (fs : List Closing) (w : Largest) : Type 0 where
  pub before : List Closing
  pub its-fix : Closing
  pub after : List Closing
  pub in_order : fs ≡ before ++ (its-fix ∷ after)
  pub less-before : All (λ (g : Closing). difference_at coordinate g < difference_at coordinate its-fix) before
  pub no-more-after : All (λ (g : Closing). difference_at coordinate g ≤ difference_at coordinate its-fix) after
  pub bits-told : w.bits ≡ difference_at coordinate its-fix
  pub list-told : w.list ≡ its-fix.list
  pub index-told : w.index ≡ its-fix.index

-- the largest difference of a coordinate; "with none left, 0 at list 0, index 0"
pub data IsLargest (coordinate : Tuple → Float) (fs : List Closing) (w : Largest) : Type 0 where
  none_left : fs ≡ [] → w ≡ no_largest → IsLargest coordinate fs w
  stands : StandsAt coordinate fs w → IsLargest coordinate fs w

-- what a report tells of so many lists with these fixes
pub record Tells (r : Report) (lists : ℕ) (fs : List Closing) : Type 0 where
  pub lists-seen : r.lists ≡ lists
  pub tuples-seen : r.tuples ≡ length fs
  pub nan-at-start-or-end : r.nans ≡ number_of is_lost fs
  pub restored-bit-for-bit : r.restored ≡ number_of only_restored fs
  pub largest-of-x : IsLargest (λ (v : Tuple). v.x) (rest_of fs) r.x
  pub largest-of-y : IsLargest (λ (v : Tuple). v.y) (rest_of fs) r.y
  pub largest-of-z : IsLargest (λ (v : Tuple). v.z) (rest_of fs) r.z
  pub largest-of-t : IsLargest (λ (v : Tuple). v.t) (rest_of fs) r.t
