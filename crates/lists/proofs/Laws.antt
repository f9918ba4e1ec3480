-- What holds of a step over a list, for any step; and the law by which every loop over a list is
-- proved: what one turn reads, makes and writes carries the loop's invariant from a place to the
-- next. Assumes nothing.
use Prim.Native.Nat.{ℕ, suc, ◌+◌, ◌-◌, ◌/◌, ◌≤◌, ◌<◌}
use native.Mathlib.Omega.{arith}
use native.Mathlib.Nat.{add_assoc, add-zero, zero-add}
use mathlib.Core.Path.{◌≡◌, refl, sym, ap, ◌∙◌, subst}
use mathlib.Core.Bool.{Bool, true, cond}
use mathlib.Core.List.{List, [], ◌∷◌, ◌++◌, append_assoc}
use lib.ListN.{length, take, drop, length-drop, take-append-drop}
use lib.Ieee.{Float}
use Rattle.blocks.proofs.Counts.{at_most_one}
use Rattle.tuple.specs.declared.Tuple.{Tuple}
use Rattle.lists.specs.Flat.{four_of, numbers_of, tuple_at, put_at}
use Rattle.lists.specs.Run.{Turn, Turns, ran_of, count_of, track_of}
use Rattle.lists.proofs.Places.{from_place, put-take, put-drop, put-length}

-- ---- a step over a list

-- a list shorter than a tuple stays, and nothing counts
pub ran_short : {S : Type 0} (f : Turns S) (k : ℕ) (state : S) (l : List Float) → length l < 4 → ran_of f k state l ≡ l
ran_short f k state (x ∷ y ∷ z ∷ t ∷ rest) h = absurd (omega arith)
ran_short f k state (x ∷ y ∷ z ∷ []) h = refl
ran_short f k state (x ∷ y ∷ []) h = refl
ran_short f k state (x ∷ []) h = refl
ran_short f k state [] h = refl

pub count_short : {S : Type 0} (f : Turns S) (k : ℕ) (state : S) (l : List Float) → length l < 4 → count_of f k state l ≡ 0
count_short f k state (x ∷ y ∷ z ∷ t ∷ rest) h = absurd (omega arith)
count_short f k state (x ∷ y ∷ z ∷ []) h = refl
count_short f k state (x ∷ y ∷ []) h = refl
count_short f k state (x ∷ []) h = refl
count_short f k state [] h = refl

-- the list keeps its length
pub ran_length : {S : Type 0} (f : Turns S) (k : ℕ) (state : S) (l : List Float) → length (ran_of f k state l) ≡ length l
ran_length f k state (x ∷ y ∷ z ∷ t ∷ rest) = ap (λ (n : ℕ). suc (suc (suc (suc n)))) (ran_length f (suc k) (f k state (four_of x y z t)).state rest)
ran_length f k state (x ∷ y ∷ z ∷ []) = refl
ran_length f k state (x ∷ y ∷ []) = refl
ran_length f k state (x ∷ []) = refl
ran_length f k state [] = refl

-- a step that counts every tuple counts as many as the list has
pub count_all : {S : Type 0} (f : Turns S) → ((k : ℕ) (state : S) (v : Tuple) → (f k state v).counted ≡ true)
    → (k : ℕ) (state : S) (l : List Float) → count_of f k state l ≡ length l / 4
count_all f all k state (x ∷ y ∷ z ∷ t ∷ rest) =
    rw (all k state (four_of x y z t), count_all f all (suc k) (f k state (four_of x y z t)).state rest) (omega arith)
count_all f all k state (x ∷ y ∷ z ∷ []) = refl
count_all f all k state (x ∷ y ∷ []) = refl
count_all f all k state (x ∷ []) = refl
count_all f all k state [] = refl

-- which is a quarter of the numbers before the step, and after it
pub counted_all : {S : Type 0} (f : Turns S) → ((k : ℕ) (state : S) (v : Tuple) → (f k state v).counted ≡ true)
    → (start : S) (l : List Float) {l' : List Float} → l' ≡ ran_of f 0 start l → length l' / 4 ≡ count_of f 0 start l
counted_all f all start l e = ap (λ (n : ℕ). n / 4) (ap length e ∙ ran_length f 0 start l) ∙ sym (count_all f all 0 start l)

-- steps that make the same turn of every tuple make the same list and the same count
pub ran_alike : {S : Type 0} (f g : Turns S) → ((k : ℕ) (state : S) (v : Tuple) → f k state v ≡ g k state v)
    → (k : ℕ) (state : S) (l : List Float) → ran_of f k state l ≡ ran_of g k state l
ran_alike f g same k state (x ∷ y ∷ z ∷ t ∷ rest) =
    rw (same k state (four_of x y z t))
    (ap (λ (more : List Float). numbers_of (g k state (four_of x y z t)).tuple ++ more) (ran_alike f g same (suc k) (g k state (four_of x y z t)).state rest))
ran_alike f g same k state (x ∷ y ∷ z ∷ []) = refl
ran_alike f g same k state (x ∷ y ∷ []) = refl
ran_alike f g same k state (x ∷ []) = refl
ran_alike f g same k state [] = refl

pub count_alike : {S : Type 0} (f g : Turns S) → ((k : ℕ) (state : S) (v : Tuple) → f k state v ≡ g k state v)
    → (k : ℕ) (state : S) (l : List Float) → count_of f k state l ≡ count_of g k state l
count_alike f g same k state (x ∷ y ∷ z ∷ t ∷ rest) =
    rw (same k state (four_of x y z t))
    (ap (λ (more : ℕ). cond (g k state (four_of x y z t)).counted 1 0 + more) (count_alike f g same (suc k) (g k state (four_of x y z t)).state rest))
count_alike f g same k state (x ∷ y ∷ z ∷ []) = refl
count_alike f g same k state (x ∷ y ∷ []) = refl
count_alike f g same k state (x ∷ []) = refl
count_alike f g same k state [] = refl

-- ---- at a place: the turn of the tuple there, and the run from the next place on

abbrev turn_at : {S : Type 0} → Turns S → S → List Float → ℕ → Turn S
turn_at f state l i = f (i / 4) state (tuple_at l i)

next_index : (i : ℕ) → suc (i / 4) ≡ (i + 4) / 4
next_index i = omega arith

module _ {S : Type 0} (f : Turns S) (state : S) (l : List Float) (i : ℕ) (h : i + 4 ≤ length l) where
  pub ran_open : ran_of f (i / 4) state (drop i l) ≡ numbers_of (turn_at f state l i).tuple ++ ran_of f ((i + 4) / 4) (turn_at f state l i).state (drop (i + 4) l)
  ran_open = rw (from_place l i h, ← next_index i)

  pub count-open : count_of f (i / 4) state (drop i l) ≡ cond (turn_at f state l i).counted 1 0 + count_of f ((i + 4) / 4) (turn_at f state l i).state (drop (i + 4) l)
  count-open = rw (from_place l i h, ← next_index i)

  pub track-open : (four : S → Tuple)
      → track_of four f (i / 4) state (drop i l) ≡ numbers_of (four (turn_at f state l i).state) ++ track_of four f ((i + 4) / 4) (turn_at f state l i).state (drop (i + 4) l)
  track-open four = rw (from_place l i h, ← next_index i)

-- ---- a loop that writes into another list than it reads

-- what stands written before a place, and what the run makes from there on
module _ {S : Type 0} (f : Turns S) (state : S) (l written : List Float) (i : ℕ) (h : i + 4 ≤ length l) (hw : i + 4 ≤ length written) where
  pub written-again : {v : Tuple} {written' out : List Float} → v ≡ (turn_at f state l i).tuple → written' ≡ put_at written i v
      → take i written ++ ran_of f (i / 4) state (drop i l) ≡ out
      → take (i + 4) written' ++ ran_of f ((i + 4) / 4) (turn_at f state l i).state (drop (i + 4) l) ≡ out
  written-again ev ew now =
      rw (ew, ev, put-take written i (turn_at f state l i).tuple hw, append_assoc) (rw (ran_open f state l i h) at now)

  pub tracked-again : (four : S → Tuple) {v : Tuple} {written' out : List Float} → v ≡ four (turn_at f state l i).state → written' ≡ put_at written i v
      → take i written ++ track_of four f (i / 4) state (drop i l) ≡ out
      → take (i + 4) written' ++ track_of four f ((i + 4) / 4) (turn_at f state l i).state (drop (i + 4) l) ≡ out
  tracked-again four ev ew now =
      rw (ew, ev, put-take written i (four (turn_at f state l i).state) hw, append_assoc) (rw (track-open f state l i h four) at now)

-- ---- a loop that writes where it reads

-- the invariant at a place: what is written before it and what the run makes from there on are the
-- run of the whole list
pub record Ran {S : Type 0} (f : Turns S) (start : S) (l₀ : List Float) (i : ℕ) (state : S) (l : List Float) : Type 0 where
  pub within : i ≤ length l
  pub long : length l ≡ length l₀
  pub run : take i l ++ ran_of f (i / 4) state (drop i l) ≡ ran_of f 0 start l₀

-- and the same of the count
pub record Counted {S : Type 0} (f : Turns S) (start : S) (l₀ : List Float) (i : ℕ) (state : S) (l : List Float) (n : ℕ) : Type 0 where
  pub total : n + count_of f (i / 4) state (drop i l) ≡ count_of f 0 start l₀
  pub few : n ≤ i

pub ran_start : {S : Type 0} (f : Turns S) (start : S) (l : List Float) → Ran f start l 0 start l
ran_start f start l = record { within = omega arith; long = refl; run = refl }

pub count_start : {S : Type 0} (f : Turns S) (start : S) (l : List Float) → Counted f start l 0 start l 0
count_start f start l = record { total = zero-add (count_of f 0 start l); few = omega arith }

module _ {S : Type 0} {f : Turns S} {start state : S} {l₀ l : List Float} {i : ℕ} (h : i + 4 ≤ length l) where
  pub ran-again : {v : Tuple} {l' : List Float} → v ≡ (turn_at f state l i).tuple → l' ≡ put_at l i v
      → Ran f start l₀ i state l → Ran f start l₀ (i + 4) (turn_at f state l i).state l'
  ran-again {v} {l'} ev el now =
      let put = (turn_at f state l i).tuple in
      let e : l' ≡ put_at l i put = el ∙ ap (put_at l i) ev in
      let n : length l' ≡ length l = ap length e ∙ put-length l i put h in
      let d : drop (i + 4) l' ≡ drop (i + 4) l = ap (drop (i + 4)) e ∙ put-drop l i put h in
      record { within = rw n h; long = n ∙ now.long; run = rw d (written-again f state l l i h h ev el now.run) }

  pub count-again : {v : Tuple} {l' : List Float} {counted : Bool} {n : ℕ} → counted ≡ (turn_at f state l i).counted → v ≡ (turn_at f state l i).tuple → l' ≡ put_at l i v
      → Counted f start l₀ i state l n → Counted f start l₀ (i + 4) (turn_at f state l i).state l' (n + cond counted 1 0)
  count-again {v} {l'} {counted} {n} ec ev el now =
      let d : drop (i + 4) l' ≡ drop (i + 4) l = ap (drop (i + 4)) el ∙ put-drop l i v h in
      record {
        total = rw (d, ec, add_assoc n) (rw (count-open f state l i h) at now.total);
        few = omega (arith, at_most_one counted);
      }

-- the loop's end
module _ {S : Type 0} {f : Turns S} {start state : S} {l₀ l : List Float} {i : ℕ} (h : length l - i < 4) where
  pub ran-end : Ran f start l₀ i state l → l ≡ ran_of f 0 start l₀
  ran-end now =
      let short : length (drop i l) < 4 = simp length-drop h in
      sym (take-append-drop i l) ∙ rw (ran_short f (i / 4) state (drop i l) short) at now.run

  pub count-end : {n : ℕ} → Counted f start l₀ i state l n → n ≡ count_of f 0 start l₀
  count-end {n} now =
      let short : length (drop i l) < 4 = simp length-drop h in
      rw (count_short f (i / 4) state (drop i l) short, add-zero n) at now.total

-- ---- a loop that goes on where another ended, by a step that leaves the state alone

-- from a place of a list to a later one: the invariant goes along
pub record Onward {S : Type 0} (f : Turns S) (state : S) (l₁ : List Float) (i₁ : ℕ) (l : List Float) (i : ℕ) : Type 0 where
  pub within : i ≤ length l
  pub long : length l ≡ length l₁
  pub ran : (l₀ : List Float) → Ran f state l₀ i₁ state l₁ → Ran f state l₀ i state l

-- and the same of the count
pub record CountedOnward {S : Type 0} (f : Turns S) (state : S) (l₁ : List Float) (i₁ n₁ : ℕ) (l : List Float) (i n : ℕ) : Type 0 where
  pub few : n ≤ i
  pub counted : (l₀ : List Float) → Counted f state l₀ i₁ state l₁ n₁ → Counted f state l₀ i state l n

pub onward_start : {S : Type 0} {f : Turns S} {state : S} {l : List Float} {i : ℕ} → i ≤ length l → Onward f state l i l i
onward_start h = record { within = h; long = refl; ran = λ l₀ now. now }

pub count_onward_start : {S : Type 0} {f : Turns S} {state : S} {l : List Float} {i n : ℕ} → n ≤ i → CountedOnward f state l i n l i n
count_onward_start h = record { few = h; counted = λ l₀ now. now }

module _ {S : Type 0} {f : Turns S} {state : S} {l₁ l : List Float} {i₁ i : ℕ} (steady : (k : ℕ) (v : Tuple) → (f k state v).state ≡ state) (h : i + 4 ≤ length l) where
  pub onward-again : {v : Tuple} {l' : List Float} → v ≡ (turn_at f state l i).tuple → l' ≡ put_at l i v → Onward f state l₁ i₁ l i → Onward f state l₁ i₁ l' (i + 4)
  onward-again {v} {l'} ev el now =
      let n : length l' ≡ length l = ap length el ∙ put-length l i v h in
      record {
        within = rw n h;
        long = n ∙ now.long;
        ran = λ l₀ before. subst (λ (s : S). Ran f state l₀ (i + 4) s l') (steady (i / 4) (tuple_at l i)) (ran-again h ev el (now.ran l₀ before));
      }

  pub count-onward-again : {v : Tuple} {l' : List Float} {counted : Bool} {n₁ n : ℕ} → counted ≡ (turn_at f state l i).counted → v ≡ (turn_at f state l i).tuple → l' ≡ put_at l i v
      → CountedOnward f state l₁ i₁ n₁ l i n → CountedOnward f state l₁ i₁ n₁ l' (i + 4) (n + cond counted 1 0)
  count-onward-again {v} {l'} {counted} {n₁} {n} ec ev el now =
      record {
        few = omega (arith, at_most_one counted);
        counted = λ l₀ before.
            subst (λ (s : S). Counted f state l₀ (i + 4) s l' (n + cond counted 1 0)) (steady (i / 4) (tuple_at l i)) (count-again h ec ev el (now.counted l₀ before));
      }
