-- The laws of `Passed`: no row, one row, sixteen rows, one piece after another, and the end.
-- Assumes nothing.
use Prim.Native.Nat.{ℕ, zero, suc, ◌+◌, ◌*◌, ◌/◌, ◌≤◌, ◌<◌}
use native.Mathlib.Omega.{arith}
use native.Mathlib.Nat.{add_assoc, add-zero, zero-add}
use mathlib.Core.Path.{◌≡◌, refl, sym, ap, ◌∙◌, subst}
use mathlib.Core.Bool.{Bool, cond}
use mathlib.Core.List.{List, [], ◌∷◌, ◌++◌, append_assoc, append-nil}
use borrow.Author.Tests.{le-leb}
use lib.ListN.{length, take, drop, drop_of_length-le}
use lib.Seq.{take_all, drop-drop}
use lib.Ieee.{Float}
use Rattle.blocks.specs.Each.{count_to}
use Rattle.blocks.proofs.Counts.{at_most_one, count_told}
use Rattle.tuple.specs.declared.Tuple.{Tuple}
use Rattle.lists.specs.Flat.{four_of, numbers_of, tuple_at, put_at}
use Rattle.lists.specs.Run.{Turn, Turns, ran_of, count_of, state_after_of}
use Rattle.lists.specs.Sixteen.{row_at, put_rows, turned_of, taken_of}
use Rattle.lists.proofs.Places.{from_place, put-take, put-drop}
use Rattle.lists.proofs.Results.{tuple_beyond}
use Rattle.lists.proofs.Sixteen as sixteen
use Rattle.columns.specs.Passed.{Passed, later_turns}

-- ---- pieces

pub passed_none : {S : Type 0} (f : Turns S) (i : ℕ) (state : S) (l : List Float) → Passed f i state l i state l 0
passed_none f i state l = record { whole = refl; after = refl; counts = zero-add _; few = omega arith }

pub passed_on : {S : Type 0} {f : Turns S} {i₀ i₁ i : ℕ} {s₀ s₁ s : S} {l₀ l₁ l : List Float} {m n : ℕ}
    → Passed f i₀ s₀ l₀ i₁ s₁ l₁ m → Passed f i₁ s₁ l₁ i s l n → Passed f i₀ s₀ l₀ i s l (m + n)
passed_on {m = m} {n = n} a b =
    record {
      whole = b.whole ∙ a.whole;
      after = b.after ∙ a.after;
      counts = add_assoc m n _ ∙ ap (λ (k : ℕ). m + k) b.counts ∙ a.counts;
      few = omega (arith, a.few, b.few);
    }

-- the same at an index, a state and a count that are equal
pub passed_as : {S : Type 0} {f : Turns S} {i₀ i j : ℕ} {s₀ s u : S} {l₀ l : List Float} {m n : ℕ} → i ≡ j → s ≡ u → m ≡ n
    → Passed f i₀ s₀ l₀ i s l m → Passed f i₀ s₀ l₀ j u l n
passed_as {S} {f} {i₀} {i} {j} {s₀} {s} {u} {l₀} {l} {m} {n} ei es em now =
    subst (λ (k : ℕ). Passed f i₀ s₀ l₀ j u l k) em
    (subst (λ (q : S). Passed f i₀ s₀ l₀ j q l m) es
    (subst (λ (k : ℕ). Passed f i₀ s₀ l₀ k s l m) ei now))

-- ---- one row

-- the turn of the tuple at an index
abbrev pub turn_at : {S : Type 0} → Turns S → S → List Float → ℕ → Turn S
turn_at f state l i = f i state (tuple_at l (4 * i))

module _ {S : Type 0} (f : Turns S) (state : S) (l : List Float) (i : ℕ) (h : 4 * i + 4 ≤ length l) where
  ran_open : ran_of f i state (drop (4 * i) l) ≡ numbers_of (turn_at f state l i).tuple ++ ran_of f (suc i) (turn_at f state l i).state (drop (4 * i + 4) l)
  ran_open = rw (from_place l (4 * i) h)

  after_open : state_after_of f i state (drop (4 * i) l) ≡ state_after_of f (suc i) (turn_at f state l i).state (drop (4 * i + 4) l)
  after_open = rw (from_place l (4 * i) h)

  count-open : count_of f i state (drop (4 * i) l) ≡ cond (turn_at f state l i).counted 1 0 + count_of f (suc i) (turn_at f state l i).state (drop (4 * i + 4) l)
  count-open = rw (from_place l (4 * i) h)

module _ {S : Type 0} {f : Turns S} {state : S} {l l' : List Float} {v : Tuple} {c : Bool} (i : ℕ) (h : 4 * i + 4 ≤ length l) where
  pub passed-row : v ≡ (turn_at f state l i).tuple → c ≡ (turn_at f state l i).counted → l' ≡ put_at l (4 * i) v
      → Passed f i state l (i + 1) (turn_at f state l i).state l' (cond c 1 0)
  passed-row ev ec el =
      let next : 4 * (i + 1) ≡ 4 * i + 4 = omega arith in
      let one : i + 1 ≡ suc i = omega arith in
      let d : drop (4 * i + 4) l' ≡ drop (4 * i + 4) l = ap (drop (4 * i + 4)) el ∙ put-drop l (4 * i) v h in
      let b : take (4 * i + 4) l' ≡ take (4 * i) l ++ numbers_of (turn_at f state l i).tuple =
      ap (take (4 * i + 4)) el ∙ put-take l (4 * i) v h ∙ ap (λ (w : Tuple). take (4 * i) l ++ numbers_of w) ev in
      record {
        whole = rw (next, one, d, b, append_assoc, ran_open f state l i h);
        after = rw (next, one, d, after_open f state l i h);
        counts = rw (next, one, d, ec, count-open f state l i h);
        few = omega (arith, at_most_one c);
      }

-- ---- the end: no row is left

module _ {S : Type 0} {f : Turns S} {from state : S} {l₀ l : List Float} {n : ℕ} (i : ℕ) (h : length l ≤ 4 * i) (now : Passed f 0 from l₀ i state l n) where
  none_left : drop (4 * i) l ≡ []
  none_left = drop_of_length-le l {i = 4 * i} h

  pub passed-list : l ≡ ran_of f 0 from l₀
  passed-list = rw (none_left, append-nil, take_all (4 * i) l h) at now.whole

  pub passed-state : state ≡ state_after_of f 0 from l₀
  passed-state = rw none_left at now.after

  pub passed-count : n ≡ count_of f 0 from l₀
  passed-count = rw (none_left, add-zero n) at now.counts

-- ---- sixteen rows of a step that leaves the state alone

same_tuple : (l l' : List Float) (i : ℕ) → drop i l' ≡ drop i l → tuple_at l' i ≡ tuple_at l i
same_tuple l l' i d =
    let e : i + 0 ≡ i = omega arith in
    rw e at (sym (tuple_beyond l' i 0) ∙ ap (λ (u : List Float). tuple_at u 0) d ∙ tuple_beyond l i 0)

module _ {S : Type 0} (f : Turns S) (state : S) (steady : (k : ℕ) (v : Tuple) → (f k state v).state ≡ state) (l : List Float) (i : ℕ) (rows : ℕ → Tuple) where
  -- what stands from the next row on is as it was
  rows_drop : (n : ℕ) → 4 * i + 4 * n ≤ length l → drop (4 * i + 4 * n) (put_rows l (4 * i) rows n) ≡ drop (4 * i + 4 * n) l
  rows_drop zero h = refl
  rows_drop (suc n) h =
      let s : 4 * i + 4 * suc n ≡ 4 * i + 4 * n + 4 = omega arith in
      let long : length (put_rows l (4 * i) rows n) ≡ length l = sixteen.rows-length l (4 * i) rows n (omega arith) in
      rw s
      (put-drop (put_rows l (4 * i) rows n) (4 * i + 4 * n) (rows n) (rw long (omega arith))
      ∙ sym (drop-drop 4 (4 * i + 4 * n) (put_rows l (4 * i) rows n))
      ∙ ap (drop 4) (rows_drop n (omega arith))
      ∙ drop-drop 4 (4 * i + 4 * n) l)

  rows-passed : (n : ℕ) → 4 * i + 4 * n ≤ length l → ((j : ℕ) → j < n → rows j ≡ (f (i + j) state (tuple_at l (4 * i + 4 * j))).tuple)
      → Passed f i state l (i + n) state (put_rows l (4 * i) rows n) (count_to n (λ (j : ℕ). (f (i + j) state (tuple_at l (4 * i + 4 * j))).counted))
  rows-passed zero h made = passed_as (sym (add-zero i)) refl refl (passed_none f i state l)
  rows-passed (suc n) h made =
      let long : length (put_rows l (4 * i) rows n) ≡ length l = sixteen.rows-length l (4 * i) rows n (omega arith) in
      let place : 4 * (i + n) ≡ 4 * i + 4 * n = omega arith in
      let next : i + n + 1 ≡ i + suc n = omega arith in
      let fits : 4 * (i + n) + 4 ≤ length (put_rows l (4 * i) rows n) = rw long (omega arith) in
      let there : tuple_at (put_rows l (4 * i) rows n) (4 * (i + n)) ≡ tuple_at l (4 * i + 4 * n) =
      rw place (same_tuple l (put_rows l (4 * i) rows n) (4 * i + 4 * n) (rows_drop n (omega arith))) in
      passed_on (rows-passed n (omega arith) (λ (j : ℕ) k. made j (omega arith)))
      (passed_as next (steady (i + n) _) refl
      (passed-row {v = rows n} (i + n) fits
      (made n (omega arith) ∙ ap (λ (v : Tuple). (f (i + n) state v).tuple) (sym there))
      (ap (λ (v : Tuple). (f (i + n) state v).counted) (sym there))
      (ap (λ (k : ℕ). put_at (put_rows l (4 * i) rows n) k (rows n)) (sym place))))

module _ {S : Type 0} {f : Turns S} {state : S} (steady : (k : ℕ) (v : Tuple) → (f k state v).state ≡ state) {l l' : List Float} {m : ℕ} (i : ℕ) (h : 4 * i + 64 ≤ length l) where
  pub passed-sixteen : l' ≡ turned_of f state l (4 * i) → m ≡ taken_of f state l (4 * i) → Passed f i state l (i + 16) state l' m
  unfolding turned_of taken_of
  passed-sixteen el em =
      let index : 4 * i / 4 ≡ i = omega arith in
      let there : (j : ℕ) → row_at l (4 * i) j ≡ tuple_at l (4 * i + 4 * j) = sixteen.row-there l (4 * i) h in
      let listed : put_rows l (4 * i) (λ (j : ℕ). (f (i + j) state (row_at l (4 * i) j)).tuple) 16 ≡ l' = sym (rw (le-leb (4 * i + 64) (length l) h, index) at el) in
      let counted : count_to 16 (λ (j : ℕ). (f (i + j) state (tuple_at l (4 * i + 4 * j))).counted) ≡ m =
      count_told 16 _ _ (λ (j : ℕ) k. ap (λ (v : Tuple). (f (i + j) state v).counted) (sym (there j))) ∙ sym (rw index at em) in
      subst (λ (u : List Float). Passed f i state l (i + 16) state u m) listed
      (passed_as refl refl counted
      (rows-passed f state steady l i (λ (j : ℕ). (f (i + j) state (row_at l (4 * i) j)).tuple) 16 (omega (arith, h))
      (λ (j : ℕ) k. ap (λ (v : Tuple). (f (i + j) state v).tuple) (there j))))

-- ---- a part of a list whose first fix has index k

later-list : {S : Type 0} (f : Turns S) (k i : ℕ) (state : S) (l : List Float) → ran_of (later_turns k f) i state l ≡ ran_of f (k + i) state l
later-list f k i state (x ∷ y ∷ z ∷ t ∷ rest) =
    let e : k + suc i ≡ suc (k + i) = omega arith in
    let turn = f (k + i) state (four_of x y z t) in
    ap (λ (u : List Float). numbers_of turn.tuple ++ u) (later-list f k (suc i) turn.state rest ∙ ap (λ (j : ℕ). ran_of f j turn.state rest) e)
later-list f k i state (x ∷ y ∷ z ∷ []) = refl
later-list f k i state (x ∷ y ∷ []) = refl
later-list f k i state (x ∷ []) = refl
later-list f k i state [] = refl

later_count : {S : Type 0} (f : Turns S) (k i : ℕ) (state : S) (l : List Float) → count_of (later_turns k f) i state l ≡ count_of f (k + i) state l
later_count f k i state (x ∷ y ∷ z ∷ t ∷ rest) =
    let e : k + suc i ≡ suc (k + i) = omega arith in
    let turn = f (k + i) state (four_of x y z t) in
    ap (λ (n : ℕ). cond turn.counted 1 0 + n) (later_count f k (suc i) turn.state rest ∙ ap (λ (j : ℕ). count_of f j turn.state rest) e)
later_count f k i state (x ∷ y ∷ z ∷ []) = refl
later_count f k i state (x ∷ y ∷ []) = refl
later_count f k i state (x ∷ []) = refl
later_count f k i state [] = refl

later_state : {S : Type 0} (f : Turns S) (k i : ℕ) (state : S) (l : List Float) → state_after_of (later_turns k f) i state l ≡ state_after_of f (k + i) state l
later_state f k i state (x ∷ y ∷ z ∷ t ∷ rest) =
    let e : k + suc i ≡ suc (k + i) = omega arith in
    let turn = f (k + i) state (four_of x y z t) in
    later_state f k (suc i) turn.state rest ∙ ap (λ (j : ℕ). state_after_of f j turn.state rest) e
later_state f k i state (x ∷ y ∷ z ∷ []) = refl
later_state f k i state (x ∷ y ∷ []) = refl
later_state f k i state (x ∷ []) = refl
later_state f k i state [] = refl

module _ {S : Type 0} (f : Turns S) (k : ℕ) (state : S) (l : List Float) where
  pub later-ran : ran_of (later_turns k f) 0 state l ≡ ran_of f k state l
  later-ran = later-list f k 0 state l ∙ ap (λ (j : ℕ). ran_of f j state l) (add-zero k)

  pub later-counted : count_of (later_turns k f) 0 state l ≡ count_of f k state l
  later-counted = later_count f k 0 state l ∙ ap (λ (j : ℕ). count_of f j state l) (add-zero k)

  pub later-after : state_after_of (later_turns k f) 0 state l ≡ state_after_of f k state l
  later-after = later_state f k 0 state l ∙ ap (λ (j : ℕ). state_after_of f j state l) (add-zero k)
