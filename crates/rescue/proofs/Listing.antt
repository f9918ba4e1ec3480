-- The words that differ, as the loops count and list them; and that the list has them all, no other,
-- and each once, in ascending place. Assumes nothing.
use mathlib.Core.Path.{◌≡◌, refl, sym, ap, ◌∙◌}
use Prim.Native.Nat.{ℕ, zero, suc, ◌+◌, ◌*◌, ◌-◌, ◌≤◌}
use mathlib.Core.Bool.{Bool, true, false, cond}
use mathlib.Core.List.{List, [], ◌∷◌, ◌++◌}
use native.Mathlib.Omega.{arith}
use native.Mathlib.Nat.{add-zero, add-suc}
use native.Mathlib.Numerals.{add-one}
use borrow.Author.Tests.{eqb-false, eq-eqb, ne_eqb}
use lib.Dec.{eqb}
use lib.ListN.{length, length-append}
use Rattle.words.specs.Words.{word32, put}
use Rattle.words.proofs.Laws.{put-put}
use Rattle.rescue.specs.Changes.{Change, change_of, changed_of, change_at, changes_in, list_of}
use Rattle.rescue.specs.Listed.{Has, Ascending, Differs}

-- ---- three words a change

pub list_length : (l : List Change) → length (list_of l) ≡ 3 * length l
unfolding list_of
list_length [] = refl
list_length (c ∷ l) = omega (arith, list_length l)

pub list-append : (l m : List Change) → list_of (l ++ m) ≡ list_of l ++ list_of m
unfolding list_of
list-append [] m = refl
list-append (c ∷ l) m = ap (λ (k : List ℕ). c.place ∷ c.old ∷ c.new ∷ k) (list-append l m)

-- ---- a word

pub none_changed : (place old new : ℕ) → old ≡ new → changed_of place old new ≡ []
unfolding changed_of
none_changed place old new e = rw (eq-eqb old new e)

pub one_changed : (place old new : ℕ) → (old ≡ new → ⊥) → changed_of place old new ≡ change_of place old new ∷ []
unfolding changed_of
one_changed place old new d = rw (ne_eqb old new d)

pub listed_none : (place old new : ℕ) → old ≡ new → list_of (changed_of place old new) ≡ []
unfolding list_of
listed_none place old new e = rw (none_changed place old new e)

pub listed_one : (place old new : ℕ) → (old ≡ new → ⊥) → list_of (changed_of place old new) ≡ place ∷ old ∷ new ∷ []
unfolding list_of
listed_one place old new d = rw (one_changed place old new d)

-- ---- a word more

module _ (s r : List ℕ) where
  next-suc : (i : ℕ) → changes_in s r (suc i) ≡ changes_in s r i ++ change_at s r (4 * i)
  unfolding changes_in
  next-suc i = refl

  next : (i : ℕ) → changes_in s r (i + 1) ≡ changes_in s r i ++ change_at s r (4 * i)
  next i = rw add-one (next-suc i)

  pub counted_next : (i : ℕ) → length (changes_in s r (i + 1)) ≡ length (changes_in s r i) + length (change_at s r (4 * i))
  counted_next i = ap length (next i) ∙ length-append (changes_in s r i) (change_at s r (4 * i))

  list-next : (i : ℕ) → list_of (changes_in s r (i + 1)) ≡ list_of (changes_in s r i) ++ list_of (change_at s r (4 * i))
  list-next i = ap list_of (next i) ∙ list-append (changes_in s r i) (change_at s r (4 * i))

  -- how far the list reaches
  pub reaches-next : (i : ℕ) → length (list_of (changes_in s r (i + 1))) ≡ length (list_of (changes_in s r i)) + length (list_of (change_at s r (4 * i)))
  reaches-next i = ap length (list-next i) ∙ length-append (list_of (changes_in s r i)) (list_of (change_at s r (4 * i)))

  grows : (i k : ℕ) → length (changes_in s r i) ≤ length (changes_in s r (i + k))
  unfolding changes_in
  grows i zero = rw add-zero (omega arith)
  grows i (suc k) = rw add-suc (rw length-append (omega (arith, grows i k)))

  -- the changes of some words take no more of the list than those of all
  pub within_all : (i n : ℕ) → i ≤ n → length (list_of (changes_in s r i)) ≤ length (list_of (changes_in s r n))
  within_all i n h =
      let k : n ≡ i + (n - i) = omega arith in
      rw (list_length (changes_in s r i), list_length (changes_in s r n)) (rw k (omega (arith, grows i (n - i))))

  -- a word's change listed after those before it
  pub listed_next : (l : List ℕ) (i at : ℕ) → at ≡ length (list_of (changes_in s r i)) → at ≤ length l
      → put (put l 0 (list_of (changes_in s r i))) at (list_of (change_at s r (4 * i))) ≡ put l 0 (list_of (changes_in s r (i + 1)))
  listed_next l i at e h =
      let from : 0 + at ≡ at = omega arith in
      rw from at (put-put l (list_of (changes_in s r i)) (list_of (change_at s r (4 * i))) 0 at (sym e) (omega arith))
      ∙ ap (put l 0) (sym (list-next i))

-- ---- exactly the words that differ

has_left : {c : Change} {l : List Change} (m : List Change) → Has c l → Has c (l ++ m)
has_left m Has.first = Has.first
has_left m (Has.later h) = Has.later (has_left m h)

has_right : {c : Change} (l : List Change) {m : List Change} → Has c m → Has c (l ++ m)
has_right [] h = h
has_right (d ∷ l) h = Has.later (has_right l h)

has_either : {A : Type 0} {c : Change} (l m : List Change) → (Has c l → A) → (Has c m → A) → Has c (l ++ m) → A
has_either [] m p q h = q h
has_either (d ∷ l) m p q Has.first = p Has.first
has_either (d ∷ l) m p q (Has.later h) = has_either l m (λ x. p (Has.later x)) q h

only_one : {c d : Change} → Has c (d ∷ []) → c ≡ d
only_one (Has.later h) = elim h [ ]
only_one Has.first = refl

module _ (s r : List ℕ) where
  later : {n m : ℕ} {c : Change} → n ≤ m → Differs s r n c → Differs s r m c
  later h (i, (l, e)) = (i, (omega arith, e))

  at_place : (n : ℕ) {c : Change} (t : Bool) → eqb (word32 s (4 * n)) (word32 r (4 * n)) ≡ t
      → Has c (cond t [] (change_of (4 * n) (word32 s (4 * n)) (word32 r (4 * n)) ∷ [])) → Differs s r (suc n) c
  at_place n {c = c} true e h = elim h [ ]
  at_place n false e h = (n, (omega arith, (eqb-false _ _ e, only_one h)))

  -- a change that is listed is of a word that differs
  pub listed-differs : (n : ℕ) (c : Change) → Has c (changes_in s r n) → Differs s r n c
  unfolding changes_in changed_of
  listed-differs zero c h = elim h [ ]
  listed-differs (suc n) c h =
      has_either (changes_in s r n) (change_at s r (4 * n)) (λ x. later (omega arith) (listed-differs n c x))
      (at_place n (eqb (word32 s (4 * n)) (word32 r (4 * n))) refl) h

  still : (i k : ℕ) {c : Change} → Has c (changes_in s r i) → Has c (changes_in s r (i + k))
  still i zero h = rw add-zero h
  still i (suc k) h = rw (add-suc i k, next-suc s r (i + k)) (has_left (change_at s r (4 * (i + k))) (still i k h))

  -- and every word that differs is listed
  pub differs-listed : (n : ℕ) (c : Change) → Differs s r n c → Has c (changes_in s r n)
  differs-listed n c (i, (h, (d, e))) =
      let k : n ≡ i + 1 + (n - (i + 1)) = omega arith in
      let one = one_changed (4 * i) (word32 s (4 * i)) (word32 r (4 * i)) d in
      let here : Has c (changes_in s r (i + 1)) = rw (next s r i, one, e) (has_right (changes_in s r i) Has.first) in
      rw k (still (i + 1) (n - (i + 1)) here)

-- ---- in ascending place

widen : {a b c : ℕ} {l : List Change} → a ≤ b → Ascending b c l → Ascending a c l
widen {a} {b} {c} h (Ascending.none k) = Ascending.none {from = a} {to = c} (omega (arith, h, k))
widen {a} {b} {c} h (Ascending.next {c = d} k l) = Ascending.next {from = a} {to = c} {c = d} (omega (arith, h, k)) l

join : {a b c : ℕ} {l m : List Change} → Ascending a b l → Ascending b c m → Ascending a c (l ++ m)
join (Ascending.none h) m = widen h m
join {a} {b} {c} (Ascending.next {c = d} h l) m = Ascending.next {from = a} {to = c} {c = d} h (join l m)

one_in_place : (place old new : ℕ) (t : Bool) → Ascending place (place + 4) (cond t [] (change_of place old new ∷ []))
one_in_place place old new true = Ascending.none {from = place} {to = place + 4} (omega arith)
one_in_place place old new false =
    Ascending.next {from = place} {to = place + 4} {c = change_of place old new} (omega arith)
    (Ascending.none {from = place + 1} {to = place + 4} (omega arith))

pub in_ascending_place : (s r : List ℕ) (n : ℕ) → Ascending 0 (4 * n) (changes_in s r n)
unfolding changes_in changed_of
in_ascending_place s r zero = Ascending.none {from = 0} {to = 4 * 0} (omega arith)
in_ascending_place s r (suc n) =
    let m : 4 * suc n ≡ 4 * n + 4 = omega arith in
    rw m (join (in_ascending_place s r n) (one_in_place (4 * n) (word32 s (4 * n)) (word32 r (4 * n)) (eqb (word32 s (4 * n)) (word32 r (4 * n)))))
