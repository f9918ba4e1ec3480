-- One NaN time spoils T for the rest of a list. In running mode a NaN time is equal to no last
-- time, so T grows by (NaN - t_epoch)·DT, which is NaN on all three axes whatever DT is, also where
-- it is zero. A T of NaNs stays so: it grows from NaN or is kept. From that fix on every result is
-- three NaNs with the fix's own time, forward and inverse, rotated or not. Assumes nothing.
use Prim.Native.Nat.{ℕ, zero, suc, ◌+◌, ◌-◌, ◌*◌, ◌≤◌}
use native.Mathlib.Omega.{arith}
use mathlib.Core.Path.{◌≡◌, refl, sym, ap, ◌∙◌, subst}
use mathlib.Core.Bool.{Bool, true, false}
use mathlib.Core.List.{List, [], ◌∷◌}
use lib.Dec.{eqb}
use lib.ListN.{length, take}
use lib.Ieee.{Float, nan}
use borrow.Author.Tests.{eqb-true, eqb-false}
use Rattle.tuple.specs.declared.Tuple.{Tuple}
use Rattle.lists.specs.Flat.{four_of, tuple_at}
use Rattle.lists.specs.Run.{Turns, ran_of, state_after_of}
use Rattle.lists.proofs.Results.{tuple_first, tuple_beyond, result_at, state_keeps}
use Rattle.helmert.specs.declared.Shift.{Shift}
use Rattle.helmert.specs.declared.State.{State}
use Rattle.helmert.specs.Modes.{nothing3, start_of, next_of, running_of, is_running_of}
use Rattle.helmert.specs.Turns.{helmert_turns}
use Rattle.helmert.proofs.Laws.{nan_time_spoils, spoilt_stays_spoilt, lost_by_T, state_in_running, step_in_running}

module _ (shift : Shift) (inv : Bool) (running : is_running_of shift ≡ true) where
  abbrev f : Turns State
  f = helmert_turns inv shift

  abbrev Spoilt : State → Type 0
  Spoilt state = state.t ≡ nothing3

  -- a turn that ends with T spoilt gives three NaNs
  spoilt-turn : (k : ℕ) (state : State) (v : Tuple) → Spoilt (next_of shift state v.t) → (f k state v).tuple ≡ four_of nan nan nan v.t
  unfolding running_of
  spoilt-turn k state v h = rw (step_in_running shift inv state v running, h) (lost_by_T inv _ _ _ v)

  stays : (k : ℕ) (state : State) (v : Tuple) → Spoilt state → Spoilt (f k state v).state
  stays k state v h = rw (state_in_running shift inv state v running) (spoilt_stays_spoilt shift state v.t h)

  spoils : (k : ℕ) (state : State) (v : Tuple) → v.t ≡ nan → Spoilt (f k state v).state
  spoils k state v e = rw (state_in_running shift inv state v running, e) (nan_time_spoils shift state)

  -- ---- the state that is carried

  carried_from : (k : ℕ) (state : State) (l : List Float) (i n : ℕ) → 4 * i + 4 ≤ length l → (tuple_at l (4 * i)).t ≡ nan → 4 * suc i ≤ n
      → Spoilt (state_after_of f k state (take n l))
  carried_from k state (x ∷ y ∷ z ∷ t ∷ rest) zero n h e m =
      let four : n ≡ suc (suc (suc (suc (n - 4)))) = omega arith in
      rw four
      (state_keeps f Spoilt stays (suc k) (f k state (four_of x y z t)).state (take (n - 4) rest)
      (spoils k state (four_of x y z t) (sym (ap (λ (v : Tuple). v.t) (tuple_first (four_of x y z t) rest)) ∙ e)))
  carried_from k state (x ∷ y ∷ z ∷ t ∷ rest) (suc i) n h e m =
      let four : n ≡ suc (suc (suc (suc (n - 4)))) = omega arith in
      let next : 4 * suc i ≡ 4 + 4 * i = omega arith in
      let there : (tuple_at rest (4 * i)).t ≡ nan =
      ap (λ (v : Tuple). v.t) (tuple_beyond (x ∷ y ∷ z ∷ t ∷ rest) 4 (4 * i)) ∙ ap (λ (at : ℕ). (tuple_at (x ∷ y ∷ z ∷ t ∷ rest) at).t) (sym next) ∙ e in
      rw four (carried_from (suc k) (f k state (four_of x y z t)).state rest i (n - 4) (omega arith) there (omega arith))
  carried_from k state (x ∷ y ∷ z ∷ []) i n h e m = absurd (omega arith)
  carried_from k state (x ∷ y ∷ []) i n h e m = absurd (omega arith)
  carried_from k state (x ∷ []) i n h e m = absurd (omega arith)
  carried_from k state [] i n h e m = absurd (omega arith)

  -- ---- over a list

  module _ (l : List Float) (i : ℕ) (there : 4 * i + 4 ≤ length l) (nan-time : (tuple_at l (4 * i)).t ≡ nan) where
    -- after fix i, whose time is NaN, and after every later fix the carried T is NaN on all three
    -- axes
    pub carried-T-is-spoilt : (j : ℕ) → i ≤ j → (state_after_of f 0 (start_of shift) (take (4 * suc j) l)).t ≡ nothing3
    carried-T-is-spoilt j h = carried_from 0 (start_of shift) l i (4 * suc j) there nan-time (omega arith)

    -- and its result and every later one are three NaNs, each with its own time
    pub results-are-spoilt : (j : ℕ) → i ≤ j → 4 * j + 4 ≤ length l
        → tuple_at (ran_of f 0 (start_of shift) l) (4 * j) ≡ four_of nan nan nan (tuple_at l (4 * j)).t
    results-are-spoilt j h within =
        result_at f 0 (start_of shift) l j within ∙ spoilt-turn (0 + j) (state_after_of f 0 (start_of shift) (take (4 * j) l)) (tuple_at l (4 * j)) (by-case (eqb i j) refl)
      where
        by-case : (b : Bool) → eqb i j ≡ b → Spoilt (next_of shift (state_after_of f 0 (start_of shift) (take (4 * j) l)) (tuple_at l (4 * j)).t)
        by-case true e =
            let same : (tuple_at l (4 * j)).t ≡ nan = subst (λ (m : ℕ). (tuple_at l (4 * m)).t ≡ nan) (eqb-true i j e) nan-time in
            rw same (nan_time_spoils shift (state_after_of f 0 (start_of shift) (take (4 * j) l)))
        by-case false e =
            let less : (i ≡ j → ⊥) = eqb-false i j e in
            spoilt_stays_spoilt shift _ (tuple_at l (4 * j)).t (carried_from 0 (start_of shift) l i (4 * j) there nan-time (omega arith))
