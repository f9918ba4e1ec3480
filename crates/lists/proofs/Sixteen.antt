-- Sixteen tuples of a flat list at once: what reading finds, what putting leaves, and the law by
-- which a loop of sixteen tuples a turn is proved: what a turn reads, makes and writes as columns
-- carries the loop's invariant over sixteen places. Assumes nothing.
use Prim.Native.Nat.{ℕ, zero, suc, ◌+◌, ◌*◌, ◌/◌, ◌≤◌, ◌<◌}
use native.Mathlib.Omega.{arith}
use native.Mathlib.Nat.{add_assoc, add-zero}
use mathlib.Core.Path.{◌≡◌, refl, sym, ap, ◌∙◌, subst}
use mathlib.Core.Bool.{Bool, cond}
use mathlib.Core.List.{List, [], ◌∷◌}
use lib.Dec.{leb}
use borrow.Author.Tests.{le-leb, lt-leb}
use lib.ListN.{length, drop, get_or, replicate, get_or-replicate}
use lib.Seq.{drop-drop}
use lib.Ieee.{Float, nan}
use Rattle.blocks.specs.Each.{Each, count_to}
use Rattle.blocks.proofs.Counts.{count_few, count_told}
use Rattle.tuple.specs.declared.Tuple.{Tuple}
use Rattle.tuple.specs.Sums.{nan_tuple}
use Rattle.tuple.specs.Columns.{row_of}
use Rattle.lists.specs.Flat.{four_of, tuple_at, put_at}
use Rattle.lists.specs.Sixteen.{row_at, put_rows, put_block, turned_of, taken_of}
use Rattle.lists.specs.Run.{Turn, Turns}
use Rattle.lists.proofs.Places.{tuple-there, from_place, put-drop, put-length}
use Rattle.lists.proofs.Laws.{Ran, Counted, ran-again, count-again}

-- ---- reading

module _ (l : List Float) (i : ℕ) where
  no_row : length l < i + 64 → (j : ℕ) → row_at l i j ≡ nan_tuple
  unfolding row_at
  no_row h j = rw (lt-leb (i + 64) (length l) h)

  pub row-there : i + 64 ≤ length l → (j : ℕ) → row_at l i j ≡ tuple_at l (i + 4 * j)
  unfolding row_at
  row-there h j = rw (le-leb (i + 64) (length l) h)

  -- four numbers of the list are a row
  pub row_read : (j : ℕ) → i + 64 ≤ length l → j < 16
      → four_of (get_or l (i + 4 * j) nan) (get_or l (i + 4 * j + 1) nan) (get_or l (i + 4 * j + 2) nan) (get_or l (i + 4 * j + 3) nan) ≡ row_at l i j
  row_read j h k = sym (row-there h j ∙ tuple-there l (i + 4 * j) (omega arith))

  -- a block of NaNs is each of the columns where not all sixteen stand there
  pub none-there-block : {v : Float} → v ≡ nan → length l < i + 64 → (number : Tuple → Float) → number nan_tuple ≡ nan → Each (replicate 16 v) (λ (j : ℕ). number (row_at l i j))
  none-there-block {v} ev h number en =
      record { block = refl; held = λ j k. get_or-replicate 16 j v nan k ∙ ev ∙ sym (ap number (no_row h j) ∙ en) }

-- columns that hold tuples
pub record Columns (rows : ℕ → Tuple) (x y z t : List Float) : Type 0 where
  pub row : (j : ℕ) → j < 16 → row_of x y z t j ≡ rows j

-- columns that hold the numbers of tuples hold the tuples
pub columns : {x y z t : List Float} (rows : ℕ → Tuple) → Each x (λ (j : ℕ). (rows j).x) → Each y (λ (j : ℕ). (rows j).y) → Each z (λ (j : ℕ). (rows j).z) → Each t (λ (j : ℕ). (rows j).t)
    → Columns rows x y z t
columns rows ex ey ez et = record { row = λ j k. rw (ex.held j k, ey.held j k, ez.held j k, et.held j k) }

-- the tuples may be told in another way
pub retold : {rows others : ℕ → Tuple} {x y z t : List Float} → ((j : ℕ) → j < 16 → rows j ≡ others j) → Columns rows x y z t → Columns others x y z t
retold same held = record { row = λ j k. held.row j k ∙ same j k }

-- where the time stays, its column serves on
pub timed-columns : {rows : ℕ → Tuple} {x y z t ox oy oz : List Float} → Columns rows x y z t → (f : Tuple → Tuple) → ((v : Tuple) → (f v).t ≡ v.t)
    → Each ox (λ (j : ℕ). (f (row_of x y z t j)).x) → Each oy (λ (j : ℕ). (f (row_of x y z t j)).y) → Each oz (λ (j : ℕ). (f (row_of x y z t j)).z)
    → Columns (λ (j : ℕ). f (row_of x y z t j)) ox oy oz t
timed-columns {rows} {x} {y} {z} {t} read f stays ex ey ez =
    record {
      row = λ j k.
          let v = f (row_of x y z t j) in
          rw (ex.held j k, ey.held j k, ez.held j k) (ap (four_of v.x v.y v.z) (sym (stays (row_of x y z t j))));
    }

-- ---- putting

-- the first tuple of a list; NaNs where it is shorter
first_tuple : List Float → Tuple
first_tuple (x ∷ y ∷ z ∷ t ∷ rest) = four_of x y z t
first_tuple (x ∷ y ∷ z ∷ []) = nan_tuple
first_tuple (x ∷ y ∷ []) = nan_tuple
first_tuple (x ∷ []) = nan_tuple
first_tuple [] = nan_tuple

-- lists that are the same from a place on have the same tuple there
first_there : (l : List Float) (i : ℕ) → i + 4 ≤ length l → first_tuple (drop i l) ≡ tuple_at l i
unfolding first_tuple
first_there l i h = ap first_tuple (from_place l i h)

same_tuple : (l l' : List Float) (i : ℕ) → i + 4 ≤ length l → length l' ≡ length l → drop i l' ≡ drop i l → tuple_at l' i ≡ tuple_at l i
same_tuple l l' i h n d = sym (first_there l' i (rw n h)) ∙ ap first_tuple d ∙ first_there l i h

module _ (l : List Float) (i : ℕ) (rows : ℕ → Tuple) where
  pub rows-length : (n : ℕ) → i + 4 * n ≤ length l → length (put_rows l i rows n) ≡ length l
  rows-length zero h = refl
  rows-length (suc n) h =
      let e = rows-length n (omega arith) in
      put-length (put_rows l i rows n) (i + 4 * n) (rows n) (rw e (omega arith)) ∙ e

  -- the same tuples make the same list
  rows_alike : (others : ℕ → Tuple) (n : ℕ) → ((j : ℕ) → j < n → rows j ≡ others j) → put_rows l i rows n ≡ put_rows l i others n
  rows_alike others zero e = refl
  rows_alike others (suc n) e = rw (rows_alike others n (λ j k. e j (omega arith)), e n (omega arith))

  -- the rest is as it was
  rows_drop : (n : ℕ) → i + 4 * n ≤ length l → drop (i + 4 * n) (put_rows l i rows n) ≡ drop (i + 4 * n) l
  rows_drop zero h = refl
  rows_drop (suc n) h =
      let e = rows-length n (omega arith) in
      let s : i + 4 * suc n ≡ i + 4 * n + 4 = omega arith in
      rw s
      (put-drop (put_rows l i rows n) (i + 4 * n) (rows n) (rw e (omega arith))
      ∙ sym (drop-drop 4 (i + 4 * n) (put_rows l i rows n))
      ∙ ap (drop 4) (rows_drop n (omega arith))
      ∙ drop-drop 4 (i + 4 * n) l)

  -- the next tuple is as it was
  row_next : (n : ℕ) → i + 4 * suc n ≤ length l → tuple_at (put_rows l i rows n) (i + 4 * n) ≡ tuple_at l (i + 4 * n)
  row_next n h = same_tuple l (put_rows l i rows n) (i + 4 * n) (omega arith) (rows-length n (omega arith)) (rows_drop n (omega arith))

pub row_put : (l : List Float) (i : ℕ) (rows : ℕ → Tuple) (n : ℕ) → put_at (put_rows l i rows n) (i + 4 * n) (rows n) ≡ put_rows l i rows (n + 1)
row_put l i rows n = let e : n + 1 ≡ suc n = omega arith in rw e

module _ (l : List Float) (i : ℕ) (x y z t : List Float) where
  pub put-rows : i + 64 ≤ length l → put_block l i x y z t ≡ put_rows l i (row_of x y z t) 16
  unfolding put_block
  put-rows h = rw (le-leb (i + 64) (length l) h)

  pub put-no-rows : length l < i + 64 → put_block l i x y z t ≡ l
  unfolding put_block
  put-no-rows h = rw (lt-leb (i + 64) (length l) h)

-- ---- how many count

pub taken-few : {S : Type 0} (f : Turns S) (state : S) (l : List Float) (i : ℕ) {m : ℕ} → m ≡ taken_of f state l i → m ≤ 16
unfolding taken_of
taken-few f state l i em = rw em (count_few 16 (λ (j : ℕ). (f (i / 4 + j) state (row_at l i j)).counted))

-- ---- a loop that writes where it reads, by a step that leaves the state alone

module _ {S : Type 0} (f : Turns S) (start state : S) (l₀ l : List Float) (i : ℕ) (steady : (k : ℕ) (v : Tuple) → (f k state v).state ≡ state) (rows : ℕ → Tuple) where
  -- the turn of the tuple n places on, before it is reached and where it is
  turn-there : (n : ℕ) → i + 4 * suc n ≤ length l → f (i / 4 + n) state (tuple_at l (i + 4 * n)) ≡ f ((i + 4 * n) / 4) state (tuple_at (put_rows l i rows n) (i + 4 * n))
  turn-there n h =
      let k : (i + 4 * n) / 4 ≡ i / 4 + n = omega arith in
      rw (k, row_next l i rows n h)

  room : (n : ℕ) → i + 4 * suc n ≤ length l → i + 4 * n + 4 ≤ length (put_rows l i rows n)
  room n h = rw (rows-length l i rows n (omega arith)) (omega arith)

  rows-ran : (n : ℕ) → i + 4 * n ≤ length l → ((j : ℕ) → j < n → rows j ≡ (f (i / 4 + j) state (tuple_at l (i + 4 * j))).tuple)
      → Ran f start l₀ i state l → Ran f start l₀ (i + 4 * n) state (put_rows l i rows n)
  rows-ran zero h made now = rw (add-zero i) now
  rows-ran (suc n) h made now =
      let put = put_rows l i rows n in
      let next : i + 4 * suc n ≡ i + 4 * n + 4 = omega arith in
      let before = rows-ran n (omega arith) (λ j k. made j (omega arith)) now in
      let e = made n (omega arith) ∙ ap (λ (turn : Turn S). turn.tuple) (turn-there n h) in
      rw next
      (subst (λ (s : S). Ran f start l₀ (i + 4 * n + 4) s (put_at put (i + 4 * n) (rows n))) (steady ((i + 4 * n) / 4) (tuple_at put (i + 4 * n))) (ran-again (room n h) e refl before))

  rows-counted : (counted : ℕ → Bool) (m n : ℕ) → i + 4 * n ≤ length l → ((j : ℕ) → j < n → rows j ≡ (f (i / 4 + j) state (tuple_at l (i + 4 * j))).tuple)
      → ((j : ℕ) → j < n → counted j ≡ (f (i / 4 + j) state (tuple_at l (i + 4 * j))).counted)
      → Counted f start l₀ i state l m → Counted f start l₀ (i + 4 * n) state (put_rows l i rows n) (m + count_to n counted)
  rows-counted counted m zero h made taken now = rw (add-zero i, add-zero m) now
  rows-counted counted m (suc n) h made taken now =
      let put = put_rows l i rows n in
      let next : i + 4 * suc n ≡ i + 4 * n + 4 = omega arith in
      let before = rows-counted counted m n (omega arith) (λ j k. made j (omega arith)) (λ j k. taken j (omega arith)) now in
      let e = made n (omega arith) ∙ ap (λ (turn : Turn S). turn.tuple) (turn-there n h) in
      let c = taken n (omega arith) ∙ ap (λ (turn : Turn S). turn.counted) (turn-there n h) in
      rw (next, ← add_assoc m (count_to n counted) (cond (counted n) 1 0))
      (subst
      (λ (s : S). Counted f start l₀ (i + 4 * n + 4) s (put_at put (i + 4 * n) (rows n)) (m + count_to n counted + cond (counted n) 1 0))
      (steady ((i + 4 * n) / 4) (tuple_at put (i + 4 * n)))
      (count-again (room n h) c e refl before))

-- The step sees the sixteen tuples as columns x, y, z, t, and makes the columns ox, oy, oz, ot.
module _ {S : Type 0} (f : Turns S) (state : S) (l : List Float) (i : ℕ) {x y z t : List Float} (read : Columns (row_at l i) x y z t) where
  row-turn : (j : ℕ) → j < 16 → f (i / 4 + j) state (row_of x y z t j) ≡ f (i / 4 + j) state (row_at l i j)
  row-turn j k = ap (f (i / 4 + j) state) (read.row j k)

  pub turned : {ox oy oz ot l' : List Float} → Columns (λ (j : ℕ). (f (i / 4 + j) state (row_of x y z t j)).tuple) ox oy oz ot
      → l' ≡ put_block l i ox oy oz ot → l' ≡ turned_of f state l i
  unfolding put_block turned_of
  turned {ox} {oy} {oz} {ot} made el =
      el
      ∙ ap (λ (put : List Float). cond (leb (i + 64) (length l)) put l)
      (rows_alike l i (row_of ox oy oz ot) (λ (j : ℕ). (f (i / 4 + j) state (row_at l i j)).tuple) 16 (λ j k. made.row j k ∙ ap (λ (turn : Turn S). turn.tuple) (row-turn j k)))

  pub taken : {m : ℕ} → m ≡ count_to 16 (λ (j : ℕ). (f (i / 4 + j) state (row_of x y z t j)).counted) → m ≡ taken_of f state l i
  unfolding taken_of
  taken em = em ∙ count_told 16 _ _ (λ j k. ap (λ (turn : Turn S). turn.counted) (row-turn j k))

-- a turn of sixteen carries the invariants over sixteen places
module _ {S : Type 0} {f : Turns S} {start state : S} {l₀ l : List Float} {i : ℕ} (steady : (k : ℕ) (v : Tuple) → (f k state v).state ≡ state) (h : i + 64 ≤ length l) where
  pub ran-again-sixteen : {l' : List Float} → l' ≡ turned_of f state l i → Ran f start l₀ i state l → Ran f start l₀ (i + 64) state l'
  unfolding turned_of
  ran-again-sixteen el now =
      rw (el, le-leb (i + 64) (length l) h)
      (rows-ran f start state l₀ l i steady (λ (j : ℕ). (f (i / 4 + j) state (row_at l i j)).tuple) 16 h (λ j k. ap (λ (v : Tuple). (f (i / 4 + j) state v).tuple) (row-there l i h j)) now)

  pub count-again-sixteen : {l' : List Float} {m n : ℕ} → l' ≡ turned_of f state l i → m ≡ taken_of f state l i
      → Counted f start l₀ i state l n → Counted f start l₀ (i + 64) state l' (n + m)
  unfolding turned_of taken_of
  count-again-sixteen {l'} {m} {n} el em now =
      rw (el, em, le-leb (i + 64) (length l) h)
      (rows-counted f start state l₀ l i steady (λ (j : ℕ). (f (i / 4 + j) state (row_at l i j)).tuple) (λ (j : ℕ). (f (i / 4 + j) state (row_at l i j)).counted) n 16 h
      (λ j k. ap (λ (v : Tuple). (f (i / 4 + j) state v).tuple) (row-there l i h j))
      (λ j k. ap (λ (v : Tuple). (f (i / 4 + j) state v).counted) (row-there l i h j))
      now)
