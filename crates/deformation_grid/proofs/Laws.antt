-- A run with a grid is a run with lent velocities and marks that are what the lookup finds
-- (`grid-run-is-lent-run`): by induction over the tuples, for what is lent after the first fix
-- serves the rest of the list as if it began there (`lent_to_the_rest`). Assumes nothing.
use Prim.Native.Nat.{ℕ, suc, ◌+◌, ◌*◌, ◌/◌}
use native.Mathlib.Omega.{arith}
use mathlib.Core.Path.{◌≡◌, refl, sym, ap, ◌∙◌, fun_ext}
use mathlib.Core.Bool.{Bool, true, false, cond}
use mathlib.Core.List.{List, [], ◌∷◌, ◌++◌}
use borrow.Author.Tests.{lt-ltb, le-ltb, ltb-true, ltb-false}
use lib.Dec.{ltb}
use lib.ListN.{length}
use lib.Ieee.{Float}
use Rattle.tuple.specs.declared.Tuple.{Tuple}
use Rattle.tuple.specs.declared.Shifted.{Shifted}
use Rattle.deformation.specs.declared.Motion.{Motion}
use Rattle.deformation.specs.Step.{common_of as deformation_of}
use Rattle.lists.specs.Flat.{four_of, numbers_of}
use Rattle.lists.specs.Run.{Turns, ran_of, count_of}
use Rattle.helmert.specs.declared.State.{State}
use Rattle.turns.specs.Turns.{velocity_at, mark_at, moved_turns}
use Rattle.columns.specs.Passed.{later_turns}
use Rattle.columns.proofs.Passed.{later-ran, later-counted}
use Rattle.grid.specs.Lookup.{rows_of, columns_of, found_of}
use Rattle.deformation_grid.specs.Gridded.{found_for, gridded_of, gridded_turns, gridded_in}
use Rattle.deformation_grid.specs.Found.{velocities_found, marks_found}

-- ---- the axes read already

pub axes_read : (op : Motion) (inverse : Bool) (s : List ℕ) (v : Tuple) → gridded_in op inverse s (rows_of s) (columns_of s) v ≡ gridded_of op inverse s v
unfolding gridded_in gridded_of found_of
axes_read op inverse s v = refl

-- ---- what is lent, from the second fix on

below_next : (a b : ℕ) → ltb (suc a) (suc b) ≡ ltb a b
below_next a b = by (ltb a b) refl
  where
    by : (c : Bool) → ltb a b ≡ c → ltb (suc a) (suc b) ≡ c
    by true e = let h = ltb-true a b e in lt-ltb (suc a) (suc b) (omega (arith, h))
    by false e = let h = ltb-false a b e in le-ltb (suc a) (suc b) (omega (arith, h))

module _ (e n u : Float) (vs : List Float) where
  thirds : length (e ∷ n ∷ u ∷ vs) / 3 ≡ suc (length vs / 3)
  thirds = let m = length vs in omega arith

  first-velocity : velocity_at (e ∷ n ∷ u ∷ vs) 0 ≡ record { east = e; north = n; up = u }
  unfolding velocity_at
  first-velocity = rw (thirds, lt-ltb 0 (suc (length vs / 3)) (omega arith))

  next-velocity : (k : ℕ) → velocity_at (e ∷ n ∷ u ∷ vs) (1 + k) ≡ velocity_at vs k
  unfolding velocity_at
  next-velocity k =
      let one : 1 + k ≡ suc k = omega arith in
      let east : 3 * suc k ≡ suc (suc (suc (3 * k))) = omega arith in
      let north : suc (suc (suc (3 * k))) + 1 ≡ suc (suc (suc (3 * k + 1))) = omega arith in
      let up : suc (suc (suc (3 * k))) + 2 ≡ suc (suc (suc (3 * k + 2))) = omega arith in
      rw (thirds, one, below_next k (length vs / 3), east, north, up)

next_mark : (m : ℕ) (ms : List ℕ) (k : ℕ) → mark_at (m ∷ ms) (1 + k) ≡ mark_at ms k
next_mark m ms k = let one : 1 + k ≡ suc k = omega arith in rw one

lent_to_the_rest : (op : Motion) (inverse : Bool) (e n u : Float) (vs : List Float) (m : ℕ) (ms : List ℕ)
    → later_turns 1 (moved_turns op inverse (e ∷ n ∷ u ∷ vs) (m ∷ ms)) ≡ moved_turns op inverse vs ms
lent_to_the_rest op inverse e n u vs m ms =
    fun_ext
    (λ (k : ℕ). fun_ext
    (λ (state : State). fun_ext
    (λ (v : Tuple). rw (next-velocity e n u vs k, next_mark m ms k))))

-- ---- the run

module _ (op : Motion) (inverse : Bool) (s : List ℕ) where
  -- what is lent for a list
  lent : List Float → Turns State
  lent l = moved_turns op inverse (velocities_found op.ellps s l) (marks_found op.ellps s l)

  head-alike : (x y z t : Float) (rest : List Float)
      → gridded_of op inverse s (four_of x y z t)
      ≡ deformation_of op inverse (velocity_at (velocities_found op.ellps s (x ∷ y ∷ z ∷ t ∷ rest)) 0) (mark_at (marks_found op.ellps s (x ∷ y ∷ z ∷ t ∷ rest)) 0) (four_of x y z t)
  unfolding gridded_of velocities_found marks_found
  head-alike x y z t rest =
      let found = found_for op.ellps s (four_of x y z t) in
      rw (first-velocity found.east found.north found.up (velocities_found op.ellps s rest))

  rest-alike : (x y z t : Float) (rest : List Float) → later_turns 1 (lent (x ∷ y ∷ z ∷ t ∷ rest)) ≡ lent rest
  unfolding lent velocities_found marks_found
  rest-alike x y z t rest =
      let found = found_for op.ellps s (four_of x y z t) in
      lent_to_the_rest op inverse found.east found.north found.up (velocities_found op.ellps s rest) found.mark (marks_found op.ellps s rest)

  run-alike : (state : State) (l : List Float)
      → (ran_of (gridded_turns op inverse s) 0 state l ≡ ran_of (lent l) 0 state l) × (count_of (gridded_turns op inverse s) 0 state l ≡ count_of (lent l) 0 state l)
  unfolding lent
  run-alike state (x ∷ y ∷ z ∷ t ∷ rest) =
      let l = x ∷ y ∷ z ∷ t ∷ rest in
      let g = gridded_turns op inverse s in
      let f = lent l in
      let head = head-alike x y z t rest in
      let tail = run-alike state rest in
      let on = rest-alike x y z t rest in
      let ran = sym (later-ran g 1 state rest) ∙ tail.0 ∙ sym (ap (λ (h : Turns State). ran_of h 0 state rest) on) ∙ later-ran f 1 state rest in
      let counted = sym (later-counted g 1 state rest) ∙ tail.1 ∙ sym (ap (λ (h : Turns State). count_of h 0 state rest) on) ∙ later-counted f 1 state rest in (
        ap (λ (r : Shifted). numbers_of r.tuple ++ ran_of g 1 state rest) head ∙ ap (λ (r : List Float). numbers_of (f 0 state (four_of x y z t)).tuple ++ r) ran,
        ap (λ (r : Shifted). cond r.counted 1 0 + count_of g 1 state rest) head ∙ ap (λ (n : ℕ). cond (f 0 state (four_of x y z t)).counted 1 0 + n) counted,
      )
  run-alike state (x ∷ y ∷ z ∷ []) = (refl, refl)
  run-alike state (x ∷ y ∷ []) = (refl, refl)
  run-alike state (x ∷ []) = (refl, refl)
  run-alike state [] = (refl, refl)

  pub grid-run-is-lent-run : (state : State) (l : List Float)
      → (ran_of (gridded_turns op inverse s) 0 state l ≡ ran_of (moved_turns op inverse (velocities_found op.ellps s l) (marks_found op.ellps s l)) 0 state l)
      × (count_of (gridded_turns op inverse s) 0 state l ≡ count_of (moved_turns op inverse (velocities_found op.ellps s l) (marks_found op.ellps s l)) 0 state l)
  unfolding lent
  grid-run-is-lent-run state l = run-alike state l
