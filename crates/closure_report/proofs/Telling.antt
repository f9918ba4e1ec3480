-- A report that tells what its sentences say goes on to tell it with one fix more, and with one
-- list more: counts by the fix's fate, and of each coordinate the larger difference. Assumes
-- nothing.
use mathlib.Core.Path.{◌≡◌, refl, sym, ap, ◌∙◌}
use Prim.Native.Nat.{ℕ, ◌+◌, ◌<◌, ◌≤◌}
use mathlib.Core.Bool.{Bool, true, false, not, cond, ◌&&◌}
use mathlib.Core.List.{List, [], ◌∷◌, ◌++◌, append_assoc, append-nil}
use native.Mathlib.Omega.{arith}
use borrow.Author.Tests.{ltb-true, ltb-false, lt-ltb, le-ltb}
use lib.Dec.{ltb}
use lib.ListN.{length, length-append}
use lib.Ieee.{Float}
use Rattle.tuple.specs.declared.Tuple.{Tuple}
use Rattle.closure_report.specs.declared.Largest.{Largest}
use Rattle.closure_report.specs.declared.Report.{Report}
use Rattle.closure_report.specs.Report.{Closing, most, one_more, is_lost, is_restored, some_left, larger_of, lost_in, restored_in, left_in, seen_of, list_done}
use Rattle.closure_report.specs.Sentences.{number_of, only_restored, is_left, rest_of, difference_at, All, StandsAt, IsLargest, Tells}

-- ---- every fix of a list

pub all_append : {P : Closing → Type 0} {fs gs : List Closing} → All P fs → All P gs → All P (fs ++ gs)
all_append All.none b = b
all_append (All.next p a) b = All.next p (all_append a b)

all_map : {P Q : Closing → Type 0} {fs : List Closing} → ((f : Closing) → P f → Q f) → All P fs → All Q fs
all_map h All.none = All.none
all_map h (All.next {f = f} p a) = All.next (h f p) (all_map h a)

-- ---- a fix behind the others

one_or_none : (b : Bool) → cond b 1 0 ≤ 1
one_or_none true = omega arith
one_or_none false = omega arith

number_snoc : (p : Closing → Bool) (fs : List Closing) (f : Closing) → number_of p (fs ++ (f ∷ [])) ≡ number_of p fs + cond (p f) 1 0
unfolding number_of
number_snoc p [] f = omega arith
number_snoc p (g ∷ fs) f = let h = number_snoc p fs f in omega arith

number_at_most : (p : Closing → Bool) (fs : List Closing) → number_of p fs ≤ length fs
unfolding number_of
number_at_most p [] = omega arith
number_at_most p (f ∷ fs) = let h = number_at_most p fs in let k = one_or_none (p f) in omega arith

choose : (b : Bool) (g : Closing) (xs ys : List Closing) → cond b (g ∷ (xs ++ ys)) (xs ++ ys) ≡ cond b (g ∷ xs) xs ++ ys
choose true g xs ys = refl
choose false g xs ys = refl

rest_snoc : (fs : List Closing) (f : Closing) → rest_of (fs ++ (f ∷ [])) ≡ rest_of fs ++ cond (is_left f) (f ∷ []) []
unfolding rest_of
rest_snoc [] f = refl
rest_snoc (g ∷ fs) f = rw (rest_snoc fs f) (choose (is_left g) g (rest_of fs) (cond (is_left f) (f ∷ []) []))

rest_without : (fs : List Closing) (f : Closing) → is_left f ≡ false → rest_of (fs ++ (f ∷ [])) ≡ rest_of fs
rest_without fs f e = rest_snoc fs f ∙ rw e (append-nil (rest_of fs))

rest_with : (fs : List Closing) (f : Closing) → is_left f ≡ true → rest_of (fs ++ (f ∷ [])) ≡ rest_of fs ++ (f ∷ [])
rest_with fs f e = rest_snoc fs f ∙ rw e

-- ---- lost, restored or left: each fix has one fate

length-choose : (b : Bool) (f : Closing) (fs : List Closing) → length (cond b (f ∷ fs) fs) ≡ cond b 1 0 + length fs
length-choose true f fs = omega arith
length-choose false f fs = omega arith

one_fate : (a b : Bool) → cond a 1 0 + cond (not a && b) 1 0 + cond (not a && not b) 1 0 ≡ 1
one_fate true b = refl
one_fate false true = refl
one_fate false false = refl

pub three_fates : (fs : List Closing) → length fs ≡ number_of is_lost fs + number_of only_restored fs + length (rest_of fs)
unfolding number_of rest_of
three_fates [] = refl
three_fates (f ∷ fs) =
    let h = three_fates fs in
    let k = one_fate (is_lost f) (is_restored f) in
    let m = length-choose (is_left f) f (rest_of fs) in
    omega arith

above_both : (a b c : ℕ) → ltb (a + b) (a + b + c) ≡ ltb 0 c
above_both a b c = by-case (ltb 0 c) refl
  where
    by-case : (t : Bool) → ltb 0 c ≡ t → ltb (a + b) (a + b + c) ≡ t
    by-case true e = let k = ltb-true 0 c e in lt-ltb (a + b) (a + b + c) (omega arith)
    by-case false e = let k = ltb-false 0 c e in le-ltb (a + b) (a + b + c) (omega arith)

some_told : {r : Report} {lists : ℕ} {fs : List Closing} → Tells r lists fs → some_left r ≡ ltb 0 (length (rest_of fs))
unfolding some_left
some_told {r} {lists} {fs} told =
    rw (told.tuples-seen, told.nan-at-start-or-end, told.restored-bit-for-bit, three_fates fs)
    (above_both (number_of is_lost fs) (number_of only_restored fs) (length (rest_of fs)))

-- ---- the larger of two differences

module _ (coordinate : Tuple → Float) (rest : List Closing) (w : Largest) (f : Closing) (some : Bool) (is_some : some ≡ ltb 0 (length rest)) where
  abbrev next : Largest
  next = larger_of some w (difference_at coordinate f) f.list f.index

  -- the first
  first : rest ≡ [] → IsLargest coordinate (rest ++ (f ∷ [])) next
  unfolding larger_of
  first e =
      let no : some ≡ false = is_some ∙ rw e refl in
      IsLargest.stands
      (record {
        before = [];
        its-fix = f;
        after = [];
        in_order = rw e;
        less-before = All.none;
        no-more-after = All.none;
        bits-told = rw no;
        list-told = rw no;
        index-told = rw no;
      })

  module _ (p : StandsAt coordinate rest w) where
    yes : some ≡ true
    yes =
        is_some
        ∙ lt-ltb 0 (length rest)
        (rw (p.in_order, length-append p.before (p.its-fix ∷ p.after)) (omega arith))

    -- a larger one takes its place
    taken : w.bits < difference_at coordinate f → IsLargest coordinate (rest ++ (f ∷ [])) next
    unfolding larger_of
    taken h =
        let test = lt-ltb w.bits (difference_at coordinate f) h in
        let told = p.bits-told in
        IsLargest.stands
        (record {
          before = rest;
          its-fix = f;
          after = [];
          in_order = refl;
          less-before = rw p.in_order
              (all_append (all_map (λ g l. omega (arith, l, told, h)) p.less-before)
              (All.next (omega (arith, told, h)) (all_map (λ g l. omega (arith, l, told, h)) p.no-more-after)));
          no-more-after = All.none;
          bits-told = rw (yes, test);
          list-told = rw (yes, test);
          index-told = rw (yes, test);
        })

    -- one that is no larger does not
    kept : difference_at coordinate f ≤ w.bits → IsLargest coordinate (rest ++ (f ∷ [])) next
    unfolding larger_of
    kept h =
        let test = le-ltb w.bits (difference_at coordinate f) h in
        let told = p.bits-told in
        IsLargest.stands
        (record {
          before = p.before;
          its-fix = p.its-fix;
          after = p.after ++ (f ∷ []);
          in_order = ap (λ (l : List Closing). l ++ (f ∷ [])) p.in_order ∙ append_assoc p.before (p.its-fix ∷ p.after) (f ∷ []);
          less-before = p.less-before;
          no-more-after = all_append p.no-more-after (All.next (omega (arith, told, h)) All.none);
          bits-told = rw (yes, test) p.bits-told;
          list-told = rw (yes, test) p.list-told;
          index-told = rw (yes, test) p.index-told;
        })

  pub larger-told : IsLargest coordinate rest w → IsLargest coordinate (rest ++ (f ∷ [])) next
  larger-told (IsLargest.none_left e d) = first e
  larger-told (IsLargest.stands p) = by-case (ltb w.bits (difference_at coordinate f)) refl
    where
      by-case : (t : Bool) → ltb w.bits (difference_at coordinate f) ≡ t → IsLargest coordinate (rest ++ (f ∷ [])) next
      by-case true e = taken p (ltb-true _ _ e)
      by-case false e = kept p (ltb-false _ _ e)

-- ---- the report with one fix more

one_on : (n m : ℕ) → n ≡ m → m < most → one_more n ≡ m + 1
one_on n m e h = rw (e, lt-ltb m most h)

module _ (r : Report) (lists : ℕ) (fs : List Closing) (f : Closing) (told : Tells r lists fs) (room : length fs < most) where
  abbrev more : List Closing
  more = fs ++ (f ∷ [])

  longer : length more ≡ length fs + 1
  longer = length-append fs (f ∷ [])

  tuples-on : one_more r.tuples ≡ length more
  tuples-on = one_on r.tuples (length fs) told.tuples-seen room ∙ sym longer

  number-on : (p : Closing → Bool) (n : ℕ) → n ≡ number_of p fs → p f ≡ true → one_more n ≡ number_of p more
  number-on p n e h =
      let k = number_at_most p fs in
      one_on n (number_of p fs) e (omega arith) ∙ sym (number_snoc p fs f ∙ rw h)

  number_same : (p : Closing → Bool) (n : ℕ) → n ≡ number_of p fs → p f ≡ false → n ≡ number_of p more
  number_same p n e h = e ∙ sym (number_snoc p fs f ∙ rw h (omega arith))

  lost : is_lost f ≡ true → Tells (lost_in r) lists more
  unfolding lost_in
  lost e =
      let out : rest_of more ≡ rest_of fs = rest_without fs f (rw e) in
      record {
        lists-seen = told.lists-seen;
        tuples-seen = tuples-on;
        nan-at-start-or-end = number-on is_lost r.nans told.nan-at-start-or-end e;
        restored-bit-for-bit = number_same only_restored r.restored told.restored-bit-for-bit (rw e);
        largest-of-x = rw out told.largest-of-x;
        largest-of-y = rw out told.largest-of-y;
        largest-of-z = rw out told.largest-of-z;
        largest-of-t = rw out told.largest-of-t;
      }

  restored : is_lost f ≡ false → is_restored f ≡ true → Tells (restored_in r) lists more
  unfolding restored_in
  restored e h =
      let out : rest_of more ≡ rest_of fs = rest_without fs f (rw (e, h)) in
      record {
        lists-seen = told.lists-seen;
        tuples-seen = tuples-on;
        nan-at-start-or-end = number_same is_lost r.nans told.nan-at-start-or-end e;
        restored-bit-for-bit = number-on only_restored r.restored told.restored-bit-for-bit (rw (e, h));
        largest-of-x = rw out told.largest-of-x;
        largest-of-y = rw out told.largest-of-y;
        largest-of-z = rw out told.largest-of-z;
        largest-of-t = rw out told.largest-of-t;
      }

  left : is_lost f ≡ false → is_restored f ≡ false → Tells (left_in r f) lists more
  unfolding left_in
  left e h =
      let among : rest_of more ≡ rest_of fs ++ (f ∷ []) = rest_with fs f (rw (e, h)) in
      let some = some_told told in
      record {
        lists-seen = told.lists-seen;
        tuples-seen = tuples-on;
        nan-at-start-or-end = number_same is_lost r.nans told.nan-at-start-or-end e;
        restored-bit-for-bit = number_same only_restored r.restored told.restored-bit-for-bit (rw (e, h));
        largest-of-x = rw among (larger-told (λ (v : Tuple). v.x) (rest_of fs) r.x f (some_left r) some told.largest-of-x);
        largest-of-y = rw among (larger-told (λ (v : Tuple). v.y) (rest_of fs) r.y f (some_left r) some told.largest-of-y);
        largest-of-z = rw among (larger-told (λ (v : Tuple). v.z) (rest_of fs) r.z f (some_left r) some told.largest-of-z);
        largest-of-t = rw among (larger-told (λ (v : Tuple). v.t) (rest_of fs) r.t f (some_left r) some told.largest-of-t);
      }

  pub seen-told : Tells (seen_of r f) lists more
  unfolding seen_of
  seen-told = by-lost (is_lost f) refl
    where
      by-restored : is_lost f ≡ false → (b : Bool) → is_restored f ≡ b → Tells (cond (is_lost f) (lost_in r) (cond (is_restored f) (restored_in r) (left_in r f))) lists more
      by-restored e true h = rw (e, h) (restored e h)
      by-restored e false h = rw (e, h) (left e h)

      by-lost : (a : Bool) → is_lost f ≡ a → Tells (cond (is_lost f) (lost_in r) (cond (is_restored f) (restored_in r) (left_in r f))) lists more
      by-lost true e = rw e (lost e)
      by-lost false e = by-restored e (is_restored f) refl

-- with one list more
pub done_told : (r : Report) (lists : ℕ) (fs : List Closing) → Tells r lists fs → lists < most → Tells (list_done r) (lists + 1) fs
unfolding list_done
done_told r lists fs told room =
    record {
      lists-seen = one_on r.lists lists told.lists-seen room;
      tuples-seen = told.tuples-seen;
      nan-at-start-or-end = told.nan-at-start-or-end;
      restored-bit-for-bit = told.restored-bit-for-bit;
      largest-of-x = told.largest-of-x;
      largest-of-y = told.largest-of-y;
      largest-of-z = told.largest-of-z;
      largest-of-t = told.largest-of-t;
    }
