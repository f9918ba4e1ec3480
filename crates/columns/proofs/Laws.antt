-- Columns and the flat list that they stand for: columns of one length and others, its length, the tuple at an index, a tuple put at
-- one, and there and back. Assumes nothing.
use Prim.Native.Nat.{ℕ, zero, suc, ◌+◌, ◌*◌, ◌/◌, ◌%◌, ◌≤◌, ◌<◌}
use native.Mathlib.Omega.{arith}
use mathlib.Core.Path.{◌≡◌, refl, sym, ap, ◌∙◌}
use mathlib.Core.Bool.{Bool, true, false, cond, ◌&&◌, true≢false}
use mathlib.Core.List.{List, [], ◌∷◌, ◌++◌, append_assoc, append-nil}
use borrow.Author.Tests.{eqb-true, eq-eqb, ltb-true, ltb-false}
use lib.Dec.{eqb, ltb}
use lib.ListN.{length, take, drop, get_or, set, drop_of_length-le, length-set}
use lib.Seq.{take_all}
use lib.Ieee.{Float, nan}
use Rattle.tuple.specs.declared.Tuple.{Tuple}
use Rattle.blocks.specs.Each.{at}
use Rattle.lists.specs.Flat.{four_of, tuple_at, put_at}
use Rattle.lists.proofs.Places.{tuple-there, from_place, put-take, put-length, four-set}
use Rattle.columns.specs.Columns.{Level, level_of, has_row_of, row_by_row, flat_of, fits_of, column_of}

-- four times a number, by successors
quad : ℕ → ℕ
quad zero = zero
quad (suc n) = suc (suc (suc (suc (quad n))))

quad-four : (n : ℕ) → quad n ≡ 4 * n
unfolding quad
quad-four zero = refl
quad-four (suc n) = rw (quad-four n) (omega arith)

-- ---- columns of one length, and columns that are not

both : (a b : Bool) → (a && b) ≡ true → (a ≡ true) × (b ≡ true)
both true b e = (refl, e)
both false b e = absurd (true≢false (sym e))

pub level_told : (x y z t : List Float) → level_of x y z t ≡ true → Level x y z t
unfolding level_of
level_told x y z t e =
    let h = both (eqb (length y) (length x) && eqb (length z) (length x)) (eqb (length t) (length x)) e in
    let k = both (eqb (length y) (length x)) (eqb (length z) (length x)) h.0 in
    (eqb-true _ _ k.0, eqb-true _ _ k.1, eqb-true _ _ h.1)

pub level_test : (x y z t : List Float) → Level x y z t → level_of x y z t ≡ true
unfolding level_of
level_test x y z t h = rw (eq-eqb _ _ h.0, eq-eqb _ _ h.1, eq-eqb _ _ h.2)

-- they stand for their rows
pub flat_level : (x y z t : List Float) → Level x y z t → flat_of x y z t ≡ row_by_row x y z t
unfolding flat_of
flat_level x y z t h = rw (level_test x y z t h)

-- they stand for no tuple
pub flat-uneven : (x y z t : List Float) → level_of x y z t ≡ false → flat_of x y z t ≡ []
unfolding flat_of
flat-uneven x y z t e = rw e

-- ---- the flat list's length

flat-quad : (x y z t : List Float) → Level x y z t → length (row_by_row x y z t) ≡ quad (length x)
unfolding row_by_row quad
flat-quad (x ∷ xs) (y ∷ ys) (z ∷ zs) (t ∷ ts) h =
    ap (λ (n : ℕ). suc (suc (suc (suc n)))) (flat-quad xs ys zs ts (omega (arith, h.0), omega (arith, h.1), omega (arith, h.2)))
flat-quad (x ∷ xs) (y ∷ ys) (z ∷ zs) [] h = absurd (omega (arith, h.2))
flat-quad (x ∷ xs) (y ∷ ys) [] ts h = absurd (omega (arith, h.1))
flat-quad (x ∷ xs) [] zs ts h = absurd (omega (arith, h.0))
flat-quad [] ys zs ts h = refl

pub flat-length : (x y z t : List Float) → Level x y z t → length (flat_of x y z t) ≡ 4 * length x
flat-length x y z t h = ap length (flat_level x y z t h) ∙ flat-quad x y z t h ∙ quad-four (length x)

-- ---- a tuple at an index

abbrev row_of : List Float → List Float → List Float → List Float → ℕ → Tuple
row_of x y z t i = four_of (get_or x i nan) (get_or y i nan) (get_or z i nan) (get_or t i nan)

flat-row : (x y z t : List Float) → Level x y z t → (i : ℕ) → i < length x
    → four_of (get_or (row_by_row x y z t) (quad i) nan) (get_or (row_by_row x y z t) (suc (quad i)) nan) (get_or (row_by_row x y z t) (suc (suc (quad i))) nan) (get_or (row_by_row x y z t) (suc (suc (suc (quad i)))) nan)
    ≡ row_of x y z t i
unfolding row_by_row quad
flat-row (x ∷ xs) (y ∷ ys) (z ∷ zs) (t ∷ ts) h zero k = refl
flat-row (x ∷ xs) (y ∷ ys) (z ∷ zs) (t ∷ ts) h (suc i) k =
    flat-row xs ys zs ts (omega (arith, h.0), omega (arith, h.1), omega (arith, h.2)) i (omega (arith, k))
flat-row (x ∷ xs) (y ∷ ys) (z ∷ zs) [] h i k = absurd (omega (arith, h.2))
flat-row (x ∷ xs) (y ∷ ys) [] ts h i k = absurd (omega (arith, h.1))
flat-row (x ∷ xs) [] zs ts h i k = absurd (omega (arith, h.0))
flat-row [] ys zs ts h i k = absurd (omega (arith, k))

-- and one set there
flat-set : (x y z t : List Float) (v : Tuple) → Level x y z t → (i : ℕ) → i < length x
    → row_by_row (set x i v.x) (set y i v.y) (set z i v.z) (set t i v.t)
    ≡ set (set (set (set (row_by_row x y z t) (quad i) v.x) (suc (quad i)) v.y) (suc (suc (quad i))) v.z) (suc (suc (suc (quad i)))) v.t
unfolding row_by_row quad
flat-set (x ∷ xs) (y ∷ ys) (z ∷ zs) (t ∷ ts) v h zero k = refl
flat-set (x ∷ xs) (y ∷ ys) (z ∷ zs) (t ∷ ts) v h (suc i) k =
    ap (λ (l : List Float). x ∷ y ∷ z ∷ t ∷ l) (flat-set xs ys zs ts v (omega (arith, h.0), omega (arith, h.1), omega (arith, h.2)) i (omega (arith, k)))
flat-set (x ∷ xs) (y ∷ ys) (z ∷ zs) [] v h i k = absurd (omega (arith, h.2))
flat-set (x ∷ xs) (y ∷ ys) [] ts v h i k = absurd (omega (arith, h.1))
flat-set (x ∷ xs) [] zs ts v h i k = absurd (omega (arith, h.0))
flat-set [] ys zs ts v h i k = absurd (omega (arith, k))

-- a number set leaves the length
level_set : (x y z t : List Float) (v : Tuple) → Level x y z t → (i : ℕ) → Level (set x i v.x) (set y i v.y) (set z i v.z) (set t i v.t)
level_set x y z t v h i = rw (length-set x i v.x, length-set y i v.y, length-set z i v.z, length-set t i v.t) h

module _ (x y z t : List Float) (h : Level x y z t) (i : ℕ) (k : i < length x) where
  pub room : 4 * i + 4 ≤ length (flat_of x y z t)
  room = rw (flat-length x y z t h) (omega (arith, k))

  pub row-there : row_of x y z t i ≡ tuple_at (flat_of x y z t) (4 * i)
  row-there =
      let e1 : 4 * i + 1 ≡ suc (4 * i) = omega arith in
      let e2 : 4 * i + 2 ≡ suc (suc (4 * i)) = omega arith in
      let e3 : 4 * i + 3 ≡ suc (suc (suc (4 * i))) = omega arith in
      sym (tuple-there (flat_of x y z t) (4 * i) room ∙ rw (flat_level x y z t h, e1, e2, e3, ← quad-four i) (flat-row x y z t h i k))

  pub row-set : (v : Tuple) → flat_of (set x i v.x) (set y i v.y) (set z i v.z) (set t i v.t) ≡ put_at (flat_of x y z t) (4 * i) v
  row-set v =
      let e1 : 4 * i + 1 ≡ suc (4 * i) = omega arith in
      let e2 : 4 * i + 2 ≡ suc (suc (4 * i)) = omega arith in
      let e3 : 4 * i + 3 ≡ suc (suc (suc (4 * i))) = omega arith in
      let l = row_by_row x y z t in
      let inside : 4 * i + 4 ≤ length l = rw (flat_level x y z t h) at room in
      flat_level _ _ _ _ (level_set x y z t v h i)
      ∙ flat-set x y z t v h i k
      ∙ rw (quad-four i, ← e3, ← e2, ← e1) (four-set l (4 * i) v inside)
      ∙ ap (λ (u : List Float). put_at u (4 * i) v) (sym (flat_level x y z t h))

-- ---- whether a row stands at an index

pub row_told : (x y z t : List Float) (i : ℕ) → has_row_of x y z t i ≡ true → Level x y z t × (i < length x)
unfolding has_row_of
row_told x y z t i e = let h = both (level_of x y z t) (ltb i (length x)) e in (level_told x y z t h.0, ltb-true _ _ h.1)

-- where none does, the flat list ends before it
pub no_row : (x y z t : List Float) (i : ℕ) → has_row_of x y z t i ≡ false → length (flat_of x y z t) < 4 * i + 4
unfolding has_row_of
no_row x y z t i e = by (level_of x y z t) refl
  where
    by : (b : Bool) → level_of x y z t ≡ b → length (flat_of x y z t) < 4 * i + 4
    by true p = rw (flat-length x y z t (level_told x y z t p)) (omega (arith, ltb-false i (length x) (rw p at e)))
    by false p = rw (flat-uneven x y z t p) (omega arith)

-- ---- a point put at an index where the time stays

-- a number put where it stands
set_same : (l : List Float) (i : ℕ) → set l i (get_or l i nan) ≡ l
set_same [] i = refl
set_same (x ∷ xs) zero = refl
set_same (x ∷ xs) (suc i) = ap (λ (l : List Float). x ∷ l) (set_same xs i)

-- a tuple at the time that it has
pub timed : {v : Tuple} {time : Float} → v.t ≡ time → four_of v.x v.y v.z time ≡ v
timed {v} e = ap (four_of v.x v.y v.z) (sym e)

module _ (x y z t : List Float) (h : Level x y z t) (i : ℕ) (k : i < length x) where
  pub point-set : (v : Tuple) → v.t ≡ at t i → flat_of (set x i v.x) (set y i v.y) (set z i v.z) t ≡ put_at (flat_of x y z t) (4 * i) v
  point-set v e = ap (flat_of (set x i v.x) (set y i v.y) (set z i v.z)) (sym (ap (set t i) e ∙ set_same t i)) ∙ row-set x y z t h i k v

  -- the time of the tuple at an index
  pub row-time : (tuple_at (flat_of x y z t) (4 * i)).t ≡ at t i
  row-time = sym (ap (λ (v : Tuple). v.t) (row-there x y z t h i k))

-- ---- a loop that copies, tuple by tuple

-- what is copied before a place, and what is still to come
pub record Copied (source : List Float) (i : ℕ) (copy : List Float) : Type 0 where
  pub within : i ≤ length source
  pub long : length copy ≡ length source
  pub run : take i copy ++ drop i source ≡ source

pub copied_start : (source copy : List Float) → length copy ≡ length source → Copied source 0 copy
copied_start source copy h = record { within = omega arith; long = h; run = refl }

pub copied_again : {source copy copy' : List Float} {v : Tuple} (i : ℕ) → 4 * i + 4 ≤ length source → v ≡ tuple_at source (4 * i) → copy' ≡ put_at copy (4 * i) v
    → Copied source (4 * i) copy → Copied source (4 * (i + 1)) copy'
copied_again {source} {copy} {copy'} {v} i h ev ec now =
    let room : 4 * i + 4 ≤ length copy = rw now.long h in
    let next : 4 * (i + 1) ≡ 4 * i + 4 = omega arith in
    rw next
    (record {
      within = h;
      long = ap length ec ∙ put-length copy (4 * i) v room ∙ now.long;
      run = rw (ec, put-take copy (4 * i) v room, append_assoc, ev) (rw (from_place source (4 * i) h) at now.run);
    })

pub copied_end : {source copy : List Float} {i : ℕ} → length source ≤ i → Copied source i copy → copy ≡ source
copied_end {source} {copy} {i} h now =
    rw (drop_of_length-le source {i = i} h, append-nil, take_all i copy (rw now.long h)) at now.run

-- ---- a flat list with four numbers for each row

pub fits_told : (list x y z t : List Float) → fits_of list x y z t ≡ true → Level x y z t × (length list ≡ 4 * length x)
unfolding fits_of
fits_told list x y z t e =
    let h = both (level_of x y z t && eqb (length list % 4) 0) (eqb (length list / 4) (length x)) e in
    let k = both (level_of x y z t) (eqb (length list % 4) 0) h.0 in
    (level_told x y z t k.0, omega (arith, eqb-true (length list % 4) 0 k.1, eqb-true (length list / 4) (length x) h.1))

pub fits_test : (list x y z t : List Float) → Level x y z t → length list ≡ 4 * length x → fits_of list x y z t ≡ true
unfolding fits_of
fits_test list x y z t h e =
    let whole : length list % 4 ≡ 0 = omega (arith, e) in
    let rows : length list / 4 ≡ length x = omega (arith, e) in
    rw (level_test x y z t h, eq-eqb _ _ whole, eq-eqb _ _ rows)

-- what the converters leave where it has
pub in_columns : (list x y z t : List Float) {l : List Float} → Level x y z t → length list ≡ 4 * length x → l ≡ cond (fits_of list x y z t) list (flat_of x y z t) → l ≡ list
in_columns list x y z t h k e = rw (fits_test list x y z t h k) at e

pub in_flat : (list x y z t : List Float) {l : List Float} → Level x y z t → length list ≡ 4 * length x → l ≡ cond (fits_of list x y z t) (flat_of x y z t) list → l ≡ flat_of x y z t
in_flat list x y z t h k e = rw (fits_test list x y z t h k) at e

-- ---- there and back

-- the columns of columns' rows are the columns
rows_x : (x y z t : List Float) → Level x y z t → column_of (λ (v : Tuple). v.x) (row_by_row x y z t) ≡ x
unfolding row_by_row column_of
rows_x (x ∷ xs) (y ∷ ys) (z ∷ zs) (t ∷ ts) h = ap (λ (l : List Float). x ∷ l) (rows_x xs ys zs ts (omega (arith, h.0), omega (arith, h.1), omega (arith, h.2)))
rows_x (x ∷ xs) (y ∷ ys) (z ∷ zs) [] h = absurd (omega (arith, h.2))
rows_x (x ∷ xs) (y ∷ ys) [] ts h = absurd (omega (arith, h.1))
rows_x (x ∷ xs) [] zs ts h = absurd (omega (arith, h.0))
rows_x [] ys zs ts h = refl

rows_y : (x y z t : List Float) → Level x y z t → column_of (λ (v : Tuple). v.y) (row_by_row x y z t) ≡ y
unfolding row_by_row column_of
rows_y (x ∷ xs) (y ∷ ys) (z ∷ zs) (t ∷ ts) h = ap (λ (l : List Float). y ∷ l) (rows_y xs ys zs ts (omega (arith, h.0), omega (arith, h.1), omega (arith, h.2)))
rows_y (x ∷ xs) (y ∷ ys) (z ∷ zs) [] h = absurd (omega (arith, h.2))
rows_y (x ∷ xs) (y ∷ ys) [] ts h = absurd (omega (arith, h.1))
rows_y (x ∷ xs) [] zs ts h = absurd (omega (arith, h.0))
rows_y [] [] zs ts h = refl
rows_y [] (y ∷ ys) zs ts h = absurd (omega (arith, h.0))

rows_z : (x y z t : List Float) → Level x y z t → column_of (λ (v : Tuple). v.z) (row_by_row x y z t) ≡ z
unfolding row_by_row column_of
rows_z (x ∷ xs) (y ∷ ys) (z ∷ zs) (t ∷ ts) h = ap (λ (l : List Float). z ∷ l) (rows_z xs ys zs ts (omega (arith, h.0), omega (arith, h.1), omega (arith, h.2)))
rows_z (x ∷ xs) (y ∷ ys) (z ∷ zs) [] h = absurd (omega (arith, h.2))
rows_z (x ∷ xs) (y ∷ ys) [] ts h = absurd (omega (arith, h.1))
rows_z (x ∷ xs) [] zs ts h = absurd (omega (arith, h.0))
rows_z [] ys [] ts h = refl
rows_z [] ys (z ∷ zs) ts h = absurd (omega (arith, h.1))

rows_t : (x y z t : List Float) → Level x y z t → column_of (λ (v : Tuple). v.t) (row_by_row x y z t) ≡ t
unfolding row_by_row column_of
rows_t (x ∷ xs) (y ∷ ys) (z ∷ zs) (t ∷ ts) h = ap (λ (l : List Float). t ∷ l) (rows_t xs ys zs ts (omega (arith, h.0), omega (arith, h.1), omega (arith, h.2)))
rows_t (x ∷ xs) (y ∷ ys) (z ∷ zs) [] h = absurd (omega (arith, h.2))
rows_t (x ∷ xs) (y ∷ ys) [] ts h = absurd (omega (arith, h.1))
rows_t (x ∷ xs) [] zs ts h = absurd (omega (arith, h.0))
rows_t [] ys zs [] h = refl
rows_t [] ys zs (t ∷ ts) h = absurd (omega (arith, h.2))

module _ (x y z t : List Float) (h : Level x y z t) where
  pub back-x : column_of (λ (v : Tuple). v.x) (flat_of x y z t) ≡ x
  back-x = ap (column_of (λ (v : Tuple). v.x)) (flat_level x y z t h) ∙ rows_x x y z t h

  pub back-y : column_of (λ (v : Tuple). v.y) (flat_of x y z t) ≡ y
  back-y = ap (column_of (λ (v : Tuple). v.y)) (flat_level x y z t h) ∙ rows_y x y z t h

  pub back-z : column_of (λ (v : Tuple). v.z) (flat_of x y z t) ≡ z
  back-z = ap (column_of (λ (v : Tuple). v.z)) (flat_level x y z t h) ∙ rows_z x y z t h

  pub back-t : column_of (λ (v : Tuple). v.t) (flat_of x y z t) ≡ t
  back-t = ap (column_of (λ (v : Tuple). v.t)) (flat_level x y z t h) ∙ rows_t x y z t h

-- columns of one length are fixed by the flat list that they stand for: into a flat list and back restores each
pub record SameColumns (x y z t x' y' z' t' : List Float) : Type 0 where
  pub x-same : x' ≡ x
  pub y-same : y' ≡ y
  pub z-same : z' ≡ z
  pub t_same : t' ≡ t

pub there_and_back : (x y z t x' y' z' t' : List Float) → Level x y z t → Level x' y' z' t' → flat_of x' y' z' t' ≡ flat_of x y z t → SameColumns x y z t x' y' z' t'
there_and_back x y z t x' y' z' t' h h' e =
    record {
      x-same = sym (back-x x' y' z' t' h') ∙ ap (column_of (λ (v : Tuple). v.x)) e ∙ back-x x y z t h;
      y-same = sym (back-y x' y' z' t' h') ∙ ap (column_of (λ (v : Tuple). v.y)) e ∙ back-y x y z t h;
      z-same = sym (back-z x' y' z' t' h') ∙ ap (column_of (λ (v : Tuple). v.z)) e ∙ back-z x y z t h;
      t_same = sym (back-t x' y' z' t' h') ∙ ap (column_of (λ (v : Tuple). v.t)) e ∙ back-t x y z t h;
    }

-- a flat list's columns are of one length
one_length : (p q : Tuple → Float) (l : List Float) → length (column_of p l) ≡ length (column_of q l)
unfolding column_of
one_length p q (x ∷ y ∷ z ∷ t ∷ rest) = ap suc (one_length p q rest)
one_length p q (x ∷ y ∷ z ∷ []) = refl
one_length p q (x ∷ y ∷ []) = refl
one_length p q (x ∷ []) = refl
one_length p q [] = refl

in_rows : (l : List Float) → length l % 4 ≡ 0
    → row_by_row (column_of (λ (v : Tuple). v.x) l) (column_of (λ (v : Tuple). v.y) l) (column_of (λ (v : Tuple). v.z) l) (column_of (λ (v : Tuple). v.t) l) ≡ l
unfolding row_by_row column_of
in_rows (x ∷ y ∷ z ∷ t ∷ rest) h = ap (λ (l : List Float). x ∷ y ∷ z ∷ t ∷ l) (in_rows rest (omega (arith, h)))
in_rows (x ∷ y ∷ z ∷ []) h = absurd (omega (arith, h))
in_rows (x ∷ y ∷ []) h = absurd (omega (arith, h))
in_rows (x ∷ []) h = absurd (omega (arith, h))
in_rows [] h = refl

-- a flat list of whole tuples is what its columns stand for: into columns and back restores it
pub back_and_there : (l : List Float) → length l % 4 ≡ 0
    → flat_of (column_of (λ (v : Tuple). v.x) l) (column_of (λ (v : Tuple). v.y) l) (column_of (λ (v : Tuple). v.z) l) (column_of (λ (v : Tuple). v.t) l) ≡ l
back_and_there l h = flat_level _ _ _ _ (one_length _ _ l, one_length _ _ l, one_length _ _ l) ∙ in_rows l h
