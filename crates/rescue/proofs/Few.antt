-- A rescue changes at most three words of the header and two of each step's entry: the step count,
-- the kinds and the inverted words stay. Assumes nothing.
use mathlib.Core.Path.{◌≡◌, refl, sym, ap}
use Prim.Native.Nat.{ℕ, zero, suc, ◌+◌, ◌*◌, ◌<◌, ◌≤◌}
use mathlib.Core.Bool.{Bool, true, false, cond}
use mathlib.Core.List.{List, [], ◌∷◌}
use native.Mathlib.Omega.{arith}
use borrow.Author.Tests.{le-ltb}
use lib.Dec.{eqb}
use lib.ListN.{length}
use Rattle.words.specs.Words.{word32}
use Rattle.rescue.specs.Rebuilt.{count_word, rebuilt_of}
use Rattle.rescue.specs.Changes.{Change, change_of, changed_of, change_at, changes_in, changes_of}
use Rattle.rescue.specs.Rules.{refusal19, refusal15}
use Rattle.rescue.proofs.Rebuildable.{Rebuildable, can_be_rebuilt}
use Rattle.rescue.proofs.Reading.{count_kept, kind-kept, inverted-kept}
use Rattle.rescue.proofs.Listing.{none_changed, counted_next}

one_or_none : (b : Bool) (c : Change) → length (cond b [] (c ∷ [])) ≤ 1
one_or_none true c = omega arith
one_or_none false c = omega arith

at_most_one : (s r : List ℕ) (place : ℕ) → length (change_at s r place) ≤ 1
unfolding changed_of
at_most_one s r place = one_or_none (eqb (word32 s place) (word32 r place)) (change_of place (word32 s place) (word32 r place))

none_at : (s r : List ℕ) (w place : ℕ) → 4 * w ≡ place → word32 s place ≡ word32 r place → length (change_at s r (4 * w)) ≡ 0
none_at s r w place e h = rw e (ap length (none_changed place (word32 s place) (word32 r place) h))

no_words : (s r : List ℕ) → length (changes_in s r 0) ≡ 0
unfolding changes_in
no_words s r = refl

module _ (s : List ℕ) (ok : Rebuildable s) where
  few : (i : ℕ) → i ≤ count_word s → length (changes_in s (rebuilt_of s) (4 + 4 * i)) ≤ 3 + 2 * i
  few zero h =
      let r = rebuilt_of s in
      let e : 4 + 4 * 0 ≡ 0 + 1 + 1 + 1 + 1 = omega arith in
      let none = none_at s r (0 + 1 + 1) 8 (omega arith) (sym (count_kept s ok)) in
      rw e
      (omega (
        arith,
        no_words s r,
        counted_next s r 0,
        counted_next s r (0 + 1),
        counted_next s r (0 + 1 + 1),
        counted_next s r (0 + 1 + 1 + 1),
        none,
        at_most_one s r (4 * 0),
        at_most_one s r (4 * (0 + 1)),
        at_most_one s r (4 * (0 + 1 + 1 + 1)),
      ))
  few (suc i) h =
      let r = rebuilt_of s in
      let k = 4 + 4 * i in
      let l : i < count_word s = omega arith in
      let e : 4 + 4 * suc i ≡ k + 1 + 1 + 1 + 1 = omega arith in
      let kind = none_at s r k (16 + 16 * i) (omega arith) (sym (kind-kept s ok i l)) in
      let inverted = none_at s r (k + 1) (16 + 16 * i + 4) (omega arith) (sym (inverted-kept s ok i l)) in
      rw e
      (omega (
        arith,
        few i (omega arith),
        counted_next s r k,
        counted_next s r (k + 1),
        counted_next s r (k + 1 + 1),
        counted_next s r (k + 1 + 1 + 1),
        kind,
        inverted,
        at_most_one s r (4 * (k + 1 + 1)),
        at_most_one s r (4 * (k + 1 + 1 + 1)),
      ))

-- so never more than 35
pub few_changes : (s : List ℕ) → refusal19 s ≡ false → length (changes_of s) ≤ 35
unfolding changes_of
few_changes s kept =
    let ok = can_be_rebuilt s kept in
    omega (arith, few s ok (count_word s) (omega arith), ok.few-steps)

-- and a room of 4,240 bytes and a list of 105 words are never too short
pub never_too_short : (s : List ℕ) (room list : ℕ) → refusal19 s ≡ false → 4240 ≤ room → 105 ≤ list → refusal15 s room list ≡ false
unfolding refusal15
never_too_short s room list kept h k =
    let ok = can_be_rebuilt s kept in
    rw (le-ltb room (length s) (omega (arith, ok.at-most-long)), le-ltb list (3 * length (changes_of s)) (omega (arith, few_changes s kept)))
