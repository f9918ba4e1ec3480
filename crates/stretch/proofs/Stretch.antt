-- Redoing turn by turn is writing the run as far as the stretch goes. Assumes nothing.
use Prim.Native.Nat.{ℕ, zero, suc, ◌+◌, ◌*◌, ◌/◌}
use native.Mathlib.Omega.{arith}
use native.Mathlib.Nat.{zero-add}
use mathlib.Core.Bool.{Bool, true, false, cond}
use mathlib.Core.Path.{◌≡◌, refl, sym, ap, ◌∙◌}
use mathlib.Core.List.{List, [], ◌∷◌, ◌++◌, append_assoc}
use lib.ListN.{length, take, drop}
use lib.Seq.{drop-drop}
use lib.Ieee.{Float}
use Rattle.tuple.specs.declared.Tuple.{Tuple}
use Rattle.helmert.specs.declared.State.{State}
use Rattle.lists.specs.Flat.{four_of, numbers_of, tuple_at}
use Rattle.lists.specs.Run.{Turn, Turns, ran_of, track_of}
use Rattle.stretch.specs.Same.{alike_of}
use Rattle.stretch.specs.Kept.{tracked_of, kept_of, meets_of, stretch_from, stretch_of, redone_of, redo_of}
use Rattle.lists.proofs.Results.{tuple_first, tuple_beyond}
use Rattle.stretch.proofs.Again.{Again, again, one_of, again_of, joined}

-- ---- the stretch, fix by fix

stretch_shift : (p q : ℕ → Bool) (j : ℕ) → ((m : ℕ) → p (suc m) ≡ q m) → (k : ℕ) → stretch_from p (suc j) k ≡ stretch_from q j k
unfolding stretch_from
stretch_shift p q j same zero = refl
stretch_shift p q j same (suc k) = rw (same j, stretch_shift p q (suc j) same k)

meets_next : (v : Tuple) (new kept : List Float) (m : ℕ) → meets_of (numbers_of v ++ new) kept (suc m) ≡ meets_of new (drop 4 kept) m
unfolding meets_of
meets_next v new kept m =
    let e : 4 * suc m ≡ 4 + 4 * m = omega arith in
    rw (e, ← tuple_beyond (numbers_of v ++ new) 4 (4 * m), ← tuple_beyond kept 4 (4 * m))

pub stretch_open : (v : Tuple) (new kept : List Float)
    → stretch_of (numbers_of v ++ new) kept ≡ cond (alike_of v (tuple_at kept 0)) 1 (suc (stretch_of new (drop 4 kept)))
unfolding stretch_of stretch_from meets_of
stretch_open v new kept =
    let e : length (numbers_of v ++ new) / 4 ≡ suc (length new / 4) = omega arith in
    rw (e, tuple_first v new, stretch_shift (meets_of (numbers_of v ++ new) kept) (meets_of new (drop 4 kept)) 0 (meets_next v new kept) (length new / 4))

-- ---- the redoing of what is left

abbrev spliced : ℕ → List Float → List Float → List Float → List Float → Again
spliced n new-results new-track rs ts = again n (take (4 * n) new-results ++ drop (4 * n) rs) (take (4 * n) new-track ++ drop (4 * n) ts)

one_spliced : (b : Bool) (turn : Turn State) (new-results new-track rs ts : List Float) (n : ℕ)
    → one_of b turn (drop 4 rs) (drop 4 ts) (spliced n new-results new-track (drop 4 rs) (drop 4 ts))
    ≡ spliced (cond b 1 (suc n)) (numbers_of turn.tuple ++ new-results) (numbers_of (tracked_of turn.state) ++ new-track) rs ts
one_spliced true turn new-results new-track rs ts n = refl
one_spliced false turn new-results new-track rs ts n =
    let e : 4 * suc n ≡ suc (suc (suc (suc (4 * n)))) = omega arith in
    let d : 4 + 4 * n ≡ suc (suc (suc (suc (4 * n)))) = omega arith in
    let m : n + 1 ≡ suc n = omega arith in
    rw (m, e, drop-drop (4 * n) 4 rs, drop-drop (4 * n) 4 ts, d)

pub again-spliced : (f : Turns State) (k : ℕ) (state : State) (l rs ts : List Float)
    → again_of f k state l rs ts ≡ spliced (stretch_of (track_of tracked_of f k state l) ts) (ran_of f k state l) (track_of tracked_of f k state l) rs ts
unfolding stretch_of stretch_from
again-spliced f k state (x ∷ y ∷ z ∷ t ∷ rest) rs ts =
    let turn = f k state (four_of x y z t) in
    let new = track_of tracked_of f (suc k) turn.state rest in
    ap (one_of (alike_of (tracked_of turn.state) (tuple_at ts 0)) turn (drop 4 rs) (drop 4 ts)) (again-spliced f (suc k) turn.state rest (drop 4 rs) (drop 4 ts))
    ∙ one_spliced (alike_of (tracked_of turn.state) (tuple_at ts 0)) turn (ran_of f (suc k) turn.state rest) new rs ts (stretch_of new (drop 4 ts))
    ∙ ap (λ (n : ℕ). spliced n (numbers_of turn.tuple ++ ran_of f (suc k) turn.state rest) (numbers_of (tracked_of turn.state) ++ new) rs ts)
    (sym (stretch_open (tracked_of turn.state) new ts))
again-spliced f k state (x ∷ y ∷ z ∷ []) rs ts = refl
again-spliced f k state (x ∷ y ∷ []) rs ts = refl
again-spliced f k state (x ∷ []) rs ts = refl
again-spliced f k state [] rs ts = refl

-- ---- the redoing of the whole

pub redo_is_again : (f : Turns State) (state : State) (l rs ts : List Float) (index : ℕ)
    → redo_of f state (kept_of l rs ts) index
    ≡ redone_of (joined 0 (4 * index) rs ts (again_of f index state (drop (4 * index) l) (drop (4 * index) rs) (drop (4 * index) ts))).count
    (kept_of l (joined 0 (4 * index) rs ts (again_of f index state (drop (4 * index) l) (drop (4 * index) rs) (drop (4 * index) ts))).results
    (joined 0 (4 * index) rs ts (again_of f index state (drop (4 * index) l) (drop (4 * index) rs) (drop (4 * index) ts))).track)
unfolding redo_of
redo_is_again f state l rs ts index =
    let at = 4 * index in
    let n = stretch_of (track_of tracked_of f index state (drop at l)) (drop at ts) in
    rw (again-spliced f index state (drop at l) (drop at rs) (drop at ts), drop-drop (4 * n) at rs, drop-drop (4 * n) at ts, zero-add n, append_assoc, append_assoc)

pub again_redoes : (f : Turns State) (state : State) (l rs ts : List Float) (index : ℕ) {n : ℕ} {rs' ts' : List Float}
    → again n rs' ts' ≡ joined 0 (4 * index) rs ts (again_of f (4 * index / 4) state (drop (4 * index) l) (drop (4 * index) rs) (drop (4 * index) ts))
    → redone_of n (kept_of l rs' ts') ≡ redo_of f state (kept_of l rs ts) index
again_redoes f state l rs ts index e =
    let k : 4 * index / 4 ≡ index = omega arith in
    ap (λ (d : Again). redone_of d.count (kept_of l d.results d.track)) (rw k at e) ∙ sym (redo_is_again f state l rs ts index)
