-- A step's own loop, by its mode, makes the list, the state and the count that the definition says.
-- A static, fixed or own-epoch step sees the tuple alone and leaves the state. Assumes nothing.
use Prim.Native.Nat.{ℕ, suc, ◌+◌, ◌/◌}
use native.Mathlib.Nat.{zero-add}
use native.Mathlib.Omega.{arith}
use mathlib.Core.Path.{◌≡◌, refl, sym, ap, ◌∙◌}
use mathlib.Core.Bool.{Bool, true, false, not, cond, ◌&&◌, true≢false}
use mathlib.Core.List.{List, [], ◌∷◌, ◌++◌}
use lib.ListN.{length}
use Rattle.std.specs.List.{count_by}
use Rattle.std.proofs.lemmas.List.Recursion.{is_count_by}
use lib.Ieee.{Float, is_nan}
use Rattle.tuple.specs.declared.Tuple.{Tuple}
use Rattle.lists.specs.Flat.{four_of, numbers_of}
use Rattle.lists.specs.Run.{Turn, Turns, ran_of, count_of, state_after_of}
use Rattle.lists.proofs.Laws.{ran_alike}
use Rattle.columns.specs.Columns.{Level, row_by_row, flat_of}
use Rattle.columns.proofs.Laws.{flat_level, flat-length}
use Rattle.helmert.specs.declared.Shift.{Shift}
use Rattle.helmert.specs.declared.State.{State}
use Rattle.helmert.specs.declared.Stepped.{Stepped}
use Rattle.helmert.specs.Modes.{step_of, running_of, own_epoch_step_of, fixed_step_of, time_varying_of, is_running_of, is_own_epoch_of}
use Rattle.helmert.specs.Turns.{no_state, all_turns, stepped_turns, helmert_turns, number_of, timed_of}
use Rattle.helmert.proofs.Laws.{step_in_running, step_in_own_epoch, state_stays, counts_but_in_own_epoch}
use Rattle.helmert.proofs.Counts.{own-epoch-count, every-tuple-counts-but-in-own-epoch}
use Rattle.helmert_columns.specs.Given.{given_of}

-- ---- any step

-- what makes of each tuple what g makes of it, whatever the state, makes g's list
tuples_alone : {S : Type 0} (f : Turns S) (g : Tuple → Tuple) → ((k : ℕ) (state : S) (v : Tuple) → (f k state v).tuple ≡ g v)
    → (k j : ℕ) (state : S) (other : State) (l : List Float) → ran_of (all_turns g) j other l ≡ ran_of f k state l
tuples_alone f g same k j state other (x ∷ y ∷ z ∷ t ∷ rest) =
    rw (same k state (four_of x y z t))
    (ap (λ (more : List Float). numbers_of (g (four_of x y z t)) ++ more) (tuples_alone f g same (suc k) (suc j) (f k state (four_of x y z t)).state other rest))
tuples_alone f g same k j state other (x ∷ y ∷ z ∷ []) = refl
tuples_alone f g same k j state other (x ∷ y ∷ []) = refl
tuples_alone f g same k j state other (x ∷ []) = refl
tuples_alone f g same k j state other [] = refl

-- a state that no tuple changes is the state after the last
state_kept : {S : Type 0} (f : Turns S) → ((k : ℕ) (state : S) (v : Tuple) → (f k state v).state ≡ state)
    → (k : ℕ) (state : S) (l : List Float) → state ≡ state_after_of f k state l
state_kept f same k state (x ∷ y ∷ z ∷ t ∷ rest) =
    state_kept f same (suc k) state rest ∙ ap (λ (s : _). state_after_of f (suc k) s rest) (sym (same k state (four_of x y z t)))
state_kept f same k state (x ∷ y ∷ z ∷ []) = refl
state_kept f same k state (x ∷ y ∷ []) = refl
state_kept f same k state (x ∷ []) = refl
state_kept f same k state [] = refl

-- steps that make the same turn of every tuple come to the same state
state_alike : {S : Type 0} (f g : Turns S) → ((k : ℕ) (state : S) (v : Tuple) → f k state v ≡ g k state v)
    → (k : ℕ) (state : S) (l : List Float) → state_after_of f k state l ≡ state_after_of g k state l
state_alike f g same k state (x ∷ y ∷ z ∷ t ∷ rest) =
    rw (same k state (four_of x y z t)) (state_alike f g same (suc k) (g k state (four_of x y z t)).state rest)
state_alike f g same k state (x ∷ y ∷ z ∷ []) = refl
state_alike f g same k state (x ∷ y ∷ []) = refl
state_alike f g same k state (x ∷ []) = refl
state_alike f g same k state [] = refl

-- ---- times that are given

rows-timed : (x y z t : List Float) → Level x y z t → given_of t ≡ number_of timed_of (row_by_row x y z t)
unfolding row_by_row given_of
rows-timed (x ∷ xs) (y ∷ ys) (z ∷ zs) (t ∷ ts) h =
    ap (λ (n : ℕ). cond (not (is_nan t)) 1 0 + n) (rows-timed xs ys zs ts (omega (arith, h.0), omega (arith, h.1), omega (arith, h.2)))
rows-timed (x ∷ xs) (y ∷ ys) (z ∷ zs) [] h = absurd (omega (arith, h.2))
rows-timed (x ∷ xs) (y ∷ ys) [] ts h = absurd (omega (arith, h.1))
rows-timed (x ∷ xs) [] zs ts h = absurd (omega (arith, h.0))
rows-timed [] ys zs [] h = refl
rows-timed [] ys zs (t ∷ ts) h = absurd (omega (arith, h.2))

one_or_none : (b : Bool) (n : ℕ) → cond b 1 0 + n ≡ cond b (1 + n) n
one_or_none true n = refl
one_or_none false n = zero-add n

pub given_counted : (t : List Float) → given_of t ≡ count_by (λ (time : Float). not (is_nan time)) t
unfolding given_of
given_counted t = is_count_by given_of (λ (time : Float). not (is_nan time)) refl (λ time rest. one_or_none (not (is_nan time)) (given_of rest)) t

-- ---- Helmert's modes

other_of_two : (a b : Bool) → (a && not b) ≡ true → (a && b) ≡ false
other_of_two true true h = absurd (true≢false (sym h))
other_of_two true false h = refl
other_of_two false b h = refl

handed : Bool → Stepped → Turn State
handed counted q = record { state = q.state; tuple = q.tuple; counted = counted }

module _ (shift : Shift) (inverse : Bool) where
  running-turn : is_running_of shift ≡ true → (k : ℕ) (state : State) (v : Tuple) → stepped_turns (running_of shift inverse) k state v ≡ helmert_turns inverse shift k state v
  unfolding handed
  running-turn h k state v =
      sym
      (ap (λ (c : Bool). handed c (step_of shift inverse state v)) (counts_but_in_own_epoch shift v (other_of_two (time_varying_of shift) shift.own_epoch h))
      ∙ ap (handed true) (step_in_running shift inverse state v h))

  pub running-list : is_running_of shift ≡ true → (from : State) (l : List Float)
      → ran_of (stepped_turns (running_of shift inverse)) 0 from l ≡ ran_of (helmert_turns inverse shift) 0 from l
  running-list h from l = ran_alike _ _ (running-turn h) 0 from l

  pub running-state : is_running_of shift ≡ true → (from : State) (l : List Float)
      → state_after_of (stepped_turns (running_of shift inverse)) 0 from l ≡ state_after_of (helmert_turns inverse shift) 0 from l
  running-state h from l = state_alike _ _ (running-turn h) 0 from l

  pub own-epoch-list : is_own_epoch_of shift ≡ true → (from : State) (l : List Float)
      → ran_of (all_turns (own_epoch_step_of shift inverse)) 0 no_state l ≡ ran_of (helmert_turns inverse shift) 0 from l
  own-epoch-list h from l =
      tuples_alone (helmert_turns inverse shift) (own_epoch_step_of shift inverse) (λ k state v. ap (λ (q : Stepped). q.tuple) (step_in_own_epoch shift inverse state v h)) 0 0 from no_state l

  fixed-step : is_running_of shift ≡ false → is_own_epoch_of shift ≡ false → (state : State) (v : Tuple) → (step_of shift inverse state v).tuple ≡ fixed_step_of shift inverse v
  unfolding step_of
  fixed-step r o state v = rw (r, o)

  pub still-list : is_running_of shift ≡ false → is_own_epoch_of shift ≡ false → (from : State) (l : List Float)
      → ran_of (all_turns (fixed_step_of shift inverse)) 0 no_state l ≡ ran_of (helmert_turns inverse shift) 0 from l
  still-list r o from l = tuples_alone (helmert_turns inverse shift) (fixed_step_of shift inverse) (λ k state v. fixed-step r o state v) 0 0 from no_state l

  pub still-state : is_running_of shift ≡ false → (from : State) (l : List Float) → from ≡ state_after_of (helmert_turns inverse shift) 0 from l
  still-state h from l = state_kept (helmert_turns inverse shift) (λ k state v. state_stays shift inverse state v h) 0 from l

  -- ---- the count

  module _ (from : State) (x y z t : List Float) (h : Level x y z t) where
    pub every-row : is_own_epoch_of shift ≡ false → length t ≡ count_of (helmert_turns inverse shift) 0 from (flat_of x y z t)
    every-row o =
        let long = flat-length x y z t h in
        let quarter : length t ≡ length (flat_of x y z t) / 4 = omega (arith, long, h.2) in
        quarter ∙ sym (every-tuple-counts-but-in-own-epoch inverse shift 0 from (flat_of x y z t) o)

    pub running-rows : is_running_of shift ≡ true → length t ≡ count_of (helmert_turns inverse shift) 0 from (flat_of x y z t)
    running-rows r = every-row (other_of_two (time_varying_of shift) shift.own_epoch r)

    pub timed-rows : is_own_epoch_of shift ≡ true → given_of t ≡ count_of (helmert_turns inverse shift) 0 from (flat_of x y z t)
    timed-rows o = rows-timed x y z t h ∙ ap (number_of timed_of) (sym (flat_level x y z t h)) ∙ sym (own-epoch-count inverse shift 0 from (flat_of x y z t) o)
