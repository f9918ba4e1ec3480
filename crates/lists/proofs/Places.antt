-- Four numbers at a place of a flat list: what reading finds, and what putting leaves before the
-- place, at it and after it. Assumes nothing.
use Prim.Native.Nat.{ℕ, suc, ◌+◌, ◌≤◌, ◌<◌}
use native.Mathlib.Omega.{arith}
use mathlib.Core.Path.{◌≡◌, sym, ◌∙◌}
use mathlib.Core.List.{List, ◌∷◌, ◌++◌}
use borrow.Author.Tests.{le-leb, lt-leb}
use lib.ListN.{length, take, drop, get_or, set, length-append, length-take, length-drop}
use lib.Seq.{sets-eq, drop-cons, take_at, drop_at}
use lib.Ieee.{Float, nan}
use Rattle.tuple.specs.declared.Tuple.{Tuple}
use Rattle.tuple.specs.Sums.{nan_tuple}
use Rattle.lists.specs.Flat.{four_of, numbers_of, tuple_at, put_at}

-- ---- where no whole tuple stands

pub none_there : (l : List Float) (i : ℕ) → length l < i + 4 → tuple_at l i ≡ nan_tuple
unfolding tuple_at
none_there l i h = rw (lt-leb (i + 4) (length l) h)

pub put_none : (l : List Float) (i : ℕ) (v : Tuple) → length l < i + 4 → put_at l i v ≡ l
unfolding put_at
put_none l i v h = rw (lt-leb (i + 4) (length l) h)

-- ---- where one does

module _ (l : List Float) (i : ℕ) (h : i + 4 ≤ length l) where
  pub tuple-there : tuple_at l i ≡ four_of (get_or l i nan) (get_or l (i + 1) nan) (get_or l (i + 2) nan) (get_or l (i + 3) nan)
  unfolding tuple_at
  tuple-there = rw (le-leb (i + 4) (length l) h)

  read-four : drop i l ≡ get_or l i nan ∷ get_or l (i + 1) nan ∷ get_or l (i + 2) nan ∷ get_or l (i + 3) nan ∷ drop (i + 4) l
  read-four =
      let e1 : i + 1 ≡ suc i = omega arith in
      let e2 : i + 2 ≡ suc (suc i) = omega arith in
      let e3 : i + 3 ≡ suc (suc (suc i)) = omega arith in
      let e4 : i + 4 ≡ suc (suc (suc (suc i))) = omega arith in
      rw (e1, e2, e3, e4, drop-cons l i nan (omega arith), drop-cons l (suc i) nan (omega arith), drop-cons l (suc (suc i)) nan (omega arith), drop-cons l (suc (suc (suc i))) nan (omega arith))

  -- the list from a place on: its tuple, and the list after it
  pub from_place : drop i l ≡ numbers_of (tuple_at l i) ++ drop (i + 4) l
  from_place = rw tuple-there read-four

module _ (l : List Float) (i : ℕ) (v : Tuple) (h : i + 4 ≤ length l) where
  pub put-there : put_at l i v ≡ take i l ++ numbers_of v ++ drop (i + 4) l
  unfolding put_at
  put-there = rw (le-leb (i + 4) (length l) h)

  -- four stores, one after another
  pub four-set : set (set (set (set l i v.x) (i + 1) v.y) (i + 2) v.z) (i + 3) v.t ≡ put_at l i v
  four-set =
      let e1 : i + 1 ≡ suc i = omega arith in
      let e2 : i + 2 ≡ suc (suc i) = omega arith in
      let e3 : i + 3 ≡ suc (suc (suc i)) = omega arith in
      rw (e1, e2, e3) (sets-eq (numbers_of v) l i h) ∙ sym put-there

  head-length : length (take i l ++ numbers_of v) ≡ i + 4
  head-length = simp (length-append, length-take) (omega arith)

  pub put-take : take (i + 4) (put_at l i v) ≡ take i l ++ numbers_of v
  put-take = rw put-there (take_at (take i l ++ numbers_of v) (drop (i + 4) l) (i + 4) head-length)

  pub put-drop : drop (i + 4) (put_at l i v) ≡ drop (i + 4) l
  put-drop = rw put-there (drop_at (take i l ++ numbers_of v) (drop (i + 4) l) (i + 4) head-length)

  pub put-length : length (put_at l i v) ≡ length l
  put-length = rw put-there (simp (length-append, length-take, length-drop) (omega arith))
