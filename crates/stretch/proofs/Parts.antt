-- Parts of columns: the flat list of the first rows, of the later rows, of rows one after another,
-- and of columns with some rows written anew. Assumes nothing.
use Prim.Native.Nat.{ℕ, zero, suc, ◌+◌, ◌-◌, ◌*◌, ◌≤◌}
use native.Mathlib.Omega.{arith}
use mathlib.Core.Path.{◌≡◌, refl, sym, ap, ◌∙◌}
use mathlib.Core.List.{List, [], ◌∷◌, ◌++◌}
use lib.ListN.{length, take, drop, length-take, length-drop, length-append}
use lib.Seq.{length-take-le, take_all, drop-drop}
use lib.Ieee.{Float}
use Rattle.columns.specs.Columns.{Level, row_by_row, flat_of}
use Rattle.columns.proofs.Laws.{flat_level}

-- ---- parts of columns of one length are of one length

pub level_take : (x y z t : List Float) → Level x y z t → (n : ℕ) → Level (take n x) (take n y) (take n z) (take n t)
level_take x y z t h n = rw (length-take n x, length-take n y, length-take n z, length-take n t, h.0, h.1, h.2) (refl, refl, refl)

pub level_drop : (x y z t : List Float) → Level x y z t → (n : ℕ) → Level (drop n x) (drop n y) (drop n z) (drop n t)
level_drop x y z t h n = rw (length-drop n x, length-drop n y, length-drop n z, length-drop n t, h.0, h.1, h.2) (refl, refl, refl)

level_append : (x y z t x' y' z' t' : List Float) → Level x y z t → Level x' y' z' t' → Level (x ++ x') (y ++ y') (z ++ z') (t ++ t')
level_append x y z t x' y' z' t' h k =
    rw (length-append x x', length-append y y', length-append z z', length-append t t', h.0, h.1, h.2, k.0, k.1, k.2) (refl, refl, refl)

-- ---- their rows

rows_take : (x y z t : List Float) → Level x y z t → (n : ℕ) → row_by_row (take n x) (take n y) (take n z) (take n t) ≡ take (4 * n) (row_by_row x y z t)
unfolding row_by_row
rows_take x y z t h zero = refl
rows_take (x ∷ xs) (y ∷ ys) (z ∷ zs) (t ∷ ts) h (suc n) =
    let e : 4 * suc n ≡ suc (suc (suc (suc (4 * n)))) = omega arith in
    rw e (ap (λ (l : List Float). x ∷ y ∷ z ∷ t ∷ l) (rows_take xs ys zs ts (omega (arith, h.0), omega (arith, h.1), omega (arith, h.2)) n))
rows_take (x ∷ xs) (y ∷ ys) (z ∷ zs) [] h (suc n) = absurd (omega (arith, h.2))
rows_take (x ∷ xs) (y ∷ ys) [] ts h (suc n) = absurd (omega (arith, h.1))
rows_take (x ∷ xs) [] zs ts h (suc n) = absurd (omega (arith, h.0))
rows_take [] ys zs ts h (suc n) = let e : 4 * suc n ≡ suc (suc (suc (suc (4 * n)))) = omega arith in rw e

rows_drop : (x y z t : List Float) → Level x y z t → (n : ℕ) → row_by_row (drop n x) (drop n y) (drop n z) (drop n t) ≡ drop (4 * n) (row_by_row x y z t)
unfolding row_by_row
rows_drop x y z t h zero = refl
rows_drop (x ∷ xs) (y ∷ ys) (z ∷ zs) (t ∷ ts) h (suc n) =
    let e : 4 * suc n ≡ suc (suc (suc (suc (4 * n)))) = omega arith in
    rw e (rows_drop xs ys zs ts (omega (arith, h.0), omega (arith, h.1), omega (arith, h.2)) n)
rows_drop (x ∷ xs) (y ∷ ys) (z ∷ zs) [] h (suc n) = absurd (omega (arith, h.2))
rows_drop (x ∷ xs) (y ∷ ys) [] ts h (suc n) = absurd (omega (arith, h.1))
rows_drop (x ∷ xs) [] zs ts h (suc n) = absurd (omega (arith, h.0))
rows_drop [] ys zs ts h (suc n) = let e : 4 * suc n ≡ suc (suc (suc (suc (4 * n)))) = omega arith in rw e

rows_append : (x y z t x' y' z' t' : List Float) → Level x y z t → row_by_row (x ++ x') (y ++ y') (z ++ z') (t ++ t') ≡ row_by_row x y z t ++ row_by_row x' y' z' t'
unfolding row_by_row
rows_append (x ∷ xs) (y ∷ ys) (z ∷ zs) (t ∷ ts) x' y' z' t' h =
    ap (λ (l : List Float). x ∷ y ∷ z ∷ t ∷ l) (rows_append xs ys zs ts x' y' z' t' (omega (arith, h.0), omega (arith, h.1), omega (arith, h.2)))
rows_append (x ∷ xs) (y ∷ ys) (z ∷ zs) [] x' y' z' t' h = absurd (omega (arith, h.2))
rows_append (x ∷ xs) (y ∷ ys) [] ts x' y' z' t' h = absurd (omega (arith, h.1))
rows_append (x ∷ xs) [] zs ts x' y' z' t' h = absurd (omega (arith, h.0))
rows_append [] [] [] [] x' y' z' t' h = refl
rows_append [] (y ∷ ys) zs ts x' y' z' t' h = absurd (omega (arith, h.0))
rows_append [] [] (z ∷ zs) ts x' y' z' t' h = absurd (omega (arith, h.1))
rows_append [] [] [] (t ∷ ts) x' y' z' t' h = absurd (omega (arith, h.2))

-- ---- the flat lists that they stand for

module _ (x y z t : List Float) (h : Level x y z t) where
  pub flat-take : (n : ℕ) → flat_of (take n x) (take n y) (take n z) (take n t) ≡ take (4 * n) (flat_of x y z t)
  flat-take n = flat_level _ _ _ _ (level_take x y z t h n) ∙ rows_take x y z t h n ∙ ap (take (4 * n)) (sym (flat_level x y z t h))

  pub flat-drop : (n : ℕ) → flat_of (drop n x) (drop n y) (drop n z) (drop n t) ≡ drop (4 * n) (flat_of x y z t)
  flat-drop n = flat_level _ _ _ _ (level_drop x y z t h n) ∙ rows_drop x y z t h n ∙ ap (drop (4 * n)) (sym (flat_level x y z t h))

  pub flat_append : (x' y' z' t' : List Float) → Level x' y' z' t' → flat_of (x ++ x') (y ++ y') (z ++ z') (t ++ t') ≡ flat_of x y z t ++ flat_of x' y' z' t'
  flat_append x' y' z' t' k =
      flat_level _ _ _ _ (level_append x y z t x' y' z' t' h k)
      ∙ rows_append x y z t x' y' z' t' h
      ∙ rw (flat_level x y z t h, flat_level x' y' z' t' k)

-- ---- rows from one index on, and up to another

pub flat_mid : (x y z t : List Float) → Level x y z t → (a k : ℕ)
    → flat_of (take k (drop a x)) (take k (drop a y)) (take k (drop a z)) (take k (drop a t)) ≡ take (4 * k) (drop (4 * a) (flat_of x y z t))
flat_mid x y z t h a k = flat-take (drop a x) (drop a y) (drop a z) (drop a t) (level_drop x y z t h a) k ∙ ap (take (4 * k)) (flat-drop x y z t h a)

-- a part that is as long as rows a to e
mid_long : (l : List Float) (a e : ℕ) → a ≤ e → e ≤ length l → length (take (e - a) (drop a l)) ≡ e - a
mid_long l a e first k = let d = length-drop a l in length-take-le (e - a) (drop a l) (omega (arith, d))

after : (l : List Float) (a e : ℕ) → a ≤ e → drop (e - a) (drop a l) ≡ drop e l
after l a e first = let k : a + (e - a) ≡ e = omega arith in drop-drop (e - a) a l ∙ ap (λ (n : ℕ). drop n l) k

-- columns with the rows from a up to e written anew
module _ (x y z t : List Float) (h : Level x y z t) (a e : ℕ) (first : a ≤ e) (last : e ≤ length x) (px py pz pt : List Float)
    (lx : length px ≡ length (take (e - a) (drop a x))) (ly : length py ≡ length (take (e - a) (drop a y)))
    (lz : length pz ≡ length (take (e - a) (drop a z))) (lt : length pt ≡ length (take (e - a) (drop a t))) where
  level-mid : Level px py pz pt
  level-mid =
      let mx = mid_long x a e first last in
      let my = mid_long y a e first (omega (arith, h.0)) in
      let mz = mid_long z a e first (omega (arith, h.1)) in
      let mt = mid_long t a e first (omega (arith, h.2)) in
      (omega (arith, lx, ly, mx, my), omega (arith, lx, lz, mx, mz), omega (arith, lx, lt, mx, mt))

  pub flat-between : {mid : List Float} → flat_of px py pz pt ≡ mid
      → flat_of (take a x ++ (px ++ drop (e - a) (drop a x))) (take a y ++ (py ++ drop (e - a) (drop a y))) (take a z ++ (pz ++ drop (e - a) (drop a z))) (take a t ++ (pt ++ drop (e - a) (drop a t)))
      ≡ take (4 * a) (flat_of x y z t) ++ (mid ++ drop (4 * e) (flat_of x y z t))
  flat-between em =
      rw (after x a e first, after y a e first, after z a e first, after t a e first)
      (flat_append (take a x) (take a y) (take a z) (take a t) (level_take x y z t h a) (px ++ drop e x) (py ++ drop e y) (pz ++ drop e z) (pt ++ drop e t)
      (level_append px py pz pt (drop e x) (drop e y) (drop e z) (drop e t) level-mid (level_drop x y z t h e))
      ∙ rw (flat_append px py pz pt level-mid (drop e x) (drop e y) (drop e z) (drop e t) (level_drop x y z t h e), flat-take x y z t h a, flat-drop x y z t h e, em))

-- and from a on
pub part_to_end : (l : List Float) (a : ℕ) → take (length l - a) (drop a l) ≡ drop a l
part_to_end l a = let d = length-drop a l in take_all (length l - a) (drop a l) (omega (arith, d))
