-- Two runs over the same fixes agree from where their states meet: the redoing of what a run left
-- is the run itself. For any step. Working definitions, which no promise cites: `Renewed`, `Whole`.
-- Assumes nothing.
use Prim.Native.Nat.{ℕ, zero, suc, ◌+◌, ◌*◌, ◌≤◌}
use native.Mathlib.Omega.{arith}
use native.Mathlib.Nat.{zero-add}
use mathlib.Core.Bool.{Bool, true, false}
use mathlib.Core.Path.{◌≡◌, refl, sym, ap, ◌∙◌}
use mathlib.Core.List.{List, [], ◌∷◌, ◌++◌}
use lib.ListN.{length, take}
use lib.Ieee.{Float}
use Rattle.tuple.specs.declared.Tuple.{Tuple}
use Rattle.helmert.specs.declared.State.{State}
use Rattle.lists.specs.Flat.{four_of, numbers_of}
use Rattle.lists.specs.Run.{Turn, Turns, ran_of, track_of, state_after_of}
use Rattle.lists.proofs.Results.{tuple_first, state_keeps}
use Rattle.stretch.specs.Same.{alike_of}
use Rattle.stretch.specs.Kept.{tracked_of, held_of}
use Rattle.stretch.proofs.Data.{alike_are_equal}
use Rattle.stretch.proofs.Again.{Again, one_of, again_of}

-- ---- a step that hands its state on as it is carries the one that it started with

pub state_stays : (f : Turns State) → ((k : ℕ) (state : State) (v : Tuple) → (f k state v).state ≡ state)
    → (k : ℕ) (state : State) (l : List Float) → state_after_of f k state l ≡ state
state_stays f stays k state l = state_keeps f (λ (now : State). now ≡ state) (λ i now v e. stays i now v ∙ e) k state l refl

-- ---- the redoing over what another run left

-- the results and the track are those of the run
pub record Renewed (d : Again) (f : Turns State) (k : ℕ) (state : State) (l : List Float) : Type 0 where
  pub results-are : d.results ≡ ran_of f k state l
  pub track-are : d.track ≡ track_of tracked_of f k state l

-- one fix: by the test's answer, from what the rest gives
one_renewed : (f : Turns State) (k : ℕ) (old : State) (rest : List Float) (turn : Turn State) (o : Tuple) → o ≡ tracked_of old
    → (met : Bool) → alike_of (tracked_of turn.state) o ≡ met → (d : Again) → Renewed d f k turn.state rest
    → ((one_of met turn (ran_of f k old rest) (track_of tracked_of f k old rest) d).results ≡ numbers_of turn.tuple ++ ran_of f k turn.state rest)
    × ((one_of met turn (ran_of f k old rest) (track_of tracked_of f k old rest) d).track ≡ numbers_of (tracked_of turn.state) ++ track_of tracked_of f k turn.state rest)
one_renewed f k old rest turn o eo true e d r =
    let h : old ≡ turn.state = sym (ap held_of (alike_are_equal (tracked_of turn.state) o e ∙ eo)) in
    (rw h, rw h)
one_renewed f k old rest turn o eo false e d r = (rw r.results-are, rw r.track-are)

-- over the same fixes, from any two states
again_rest : (f : Turns State) (k : ℕ) (state old : State) (l : List Float) → Renewed (again_of f k state l (ran_of f k old l) (track_of tracked_of f k old l)) f k state l
again_rest f k state old (x ∷ y ∷ z ∷ t ∷ rest) =
    let turn = f k state (four_of x y z t) in
    let was = (f k old (four_of x y z t)).state in
    let r = one_renewed f (suc k) was rest turn _ (tuple_first (tracked_of was) (track_of tracked_of f (suc k) was rest)) _ refl _ (again_rest f (suc k) turn.state was rest) in
    record { results-are = r.0; track-are = r.1 }
again_rest f k state old (x ∷ y ∷ z ∷ []) = record { results-are = refl; track-are = refl }
again_rest f k state old (x ∷ y ∷ []) = record { results-are = refl; track-are = refl }
again_rest f k state old (x ∷ []) = record { results-are = refl; track-are = refl }
again_rest f k state old [] = record { results-are = refl; track-are = refl }

-- and where the first fix was another
pub again_first : (f : Turns State) (k : ℕ) (state old : State) (u v : Tuple) (rest : List Float)
    → Renewed (again_of f k state (numbers_of u ++ rest) (ran_of f k old (numbers_of v ++ rest)) (track_of tracked_of f k old (numbers_of v ++ rest))) f k state (numbers_of u ++ rest)
again_first f k state old u v rest =
    let turn = f k state u in
    let was = (f k old v).state in
    let r = one_renewed f (suc k) was rest turn _ (tuple_first (tracked_of was) (track_of tracked_of f (suc k) was rest)) _ refl _ (again_rest f (suc k) turn.state was rest) in
    record { results-are = r.0; track-are = r.1 }

-- ---- a run over two lists, one after the other

-- n whole tuples
pub data Whole : ℕ → List Float → Type 0 where
  none : Whole zero []
  more : {n : ℕ} {x y z t : Float} {l : List Float} → Whole n l → Whole (suc n) (x ∷ y ∷ z ∷ t ∷ l)

pub whole_take : (n : ℕ) (l : List Float) → 4 * n ≤ length l → Whole n (take (4 * n) l)
whole_take zero l h = none
whole_take (suc n) (x ∷ y ∷ z ∷ t ∷ rest) h =
    let e : 4 * suc n ≡ suc (suc (suc (suc (4 * n)))) = omega arith in
    rw e (more (whole_take n rest (omega arith)))
whole_take (suc n) (x ∷ y ∷ z ∷ []) h = absurd (omega arith)
whole_take (suc n) (x ∷ y ∷ []) h = absurd (omega arith)
whole_take (suc n) (x ∷ []) h = absurd (omega arith)
whole_take (suc n) [] h = absurd (omega arith)

next : (n k : ℕ) → n + suc k ≡ suc n + k
next n k = omega arith

pub ran_append : (f : Turns State) (k : ℕ) (state : State) {n : ℕ} {a : List Float} → Whole n a → (b : List Float)
    → ran_of f k state (a ++ b) ≡ ran_of f k state a ++ ran_of f (n + k) (state_after_of f k state a) b
ran_append f k state none b = rw (zero-add k)
ran_append f k state (more {n} {x} {y} {z} {t} w) b =
    ap (λ (l : List Float). numbers_of (f k state (four_of x y z t)).tuple ++ l) (rw (next n k) at (ran_append f (suc k) (f k state (four_of x y z t)).state w b))

pub track_append : (f : Turns State) (k : ℕ) (state : State) {n : ℕ} {a : List Float} → Whole n a → (b : List Float)
    → track_of tracked_of f k state (a ++ b) ≡ track_of tracked_of f k state a ++ track_of tracked_of f (n + k) (state_after_of f k state a) b
track_append f k state none b = rw (zero-add k)
track_append f k state (more {n} {x} {y} {z} {t} w) b =
    ap (λ (l : List Float). numbers_of (tracked_of (f k state (four_of x y z t)).state) ++ l) (rw (next n k) at (track_append f (suc k) (f k state (four_of x y z t)).state w b))

pub state_append : (f : Turns State) (k : ℕ) (state : State) {n : ℕ} {a : List Float} → Whole n a → (b : List Float)
    → state_after_of f k state (a ++ b) ≡ state_after_of f (n + k) (state_after_of f k state a) b
state_append f k state none b = rw (zero-add k)
state_append f k state (more {n} {x} {y} {z} {t} w) b = rw (next n k) at (state_append f (suc k) (f k state (four_of x y z t)).state w b)

pub track_length : (f : Turns State) (k : ℕ) (state : State) (l : List Float) → length (track_of tracked_of f k state l) ≡ length l
track_length f k state (x ∷ y ∷ z ∷ t ∷ rest) = ap (λ (n : ℕ). suc (suc (suc (suc n)))) (track_length f (suc k) (f k state (four_of x y z t)).state rest)
track_length f k state (x ∷ y ∷ z ∷ []) = refl
track_length f k state (x ∷ y ∷ []) = refl
track_length f k state (x ∷ []) = refl
track_length f k state [] = refl
