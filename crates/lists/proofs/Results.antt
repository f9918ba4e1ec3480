-- A step over a list, looked at fix by fix: the result of fix j is its turn in the state that the
-- run carries to it, and the state written after fix j is the one that the run carries from it. For
-- any step. Assumes nothing.
use Prim.Native.Nat.{ℕ, zero, suc, ◌+◌, ◌-◌, ◌*◌, ◌≤◌}
use native.Mathlib.Omega.{arith}
use native.Mathlib.Nat.{add_assoc, add-zero}
use mathlib.Core.Bool.{Bool, true, false}
use mathlib.Core.Path.{◌≡◌, refl, sym, ap, ◌∙◌}
use mathlib.Core.List.{List, [], ◌∷◌, ◌++◌}
use lib.Dec.{leb}
use lib.ListN.{length, take, drop, length-drop}
use lib.Seq.{get_or-drop}
use lib.Ieee.{Float, nan}
use borrow.Author.Tests.{leb-true, leb-false, le-leb, lt-leb}
use Rattle.tuple.specs.declared.Tuple.{Tuple}
use Rattle.lists.specs.Flat.{four_of, numbers_of, tuple_at}
use Rattle.lists.specs.Run.{Turns, ran_of, track_of, state_after_of}

-- ---- tuples of a flat list

-- the first
pub tuple_first : (v : Tuple) (l : List Float) → tuple_at (numbers_of v ++ l) 0 ≡ v
unfolding tuple_at
tuple_first v l = rw (le-leb (0 + 4) (length (numbers_of v ++ l)) (omega arith))

there-beyond : (l : List Float) (i j : ℕ) → leb (j + 4) (length (drop i l)) ≡ leb (i + j + 4) (length l)
there-beyond l i j = rw (length-drop i l) (by (leb (j + 4) (length l - i)) refl)
  where
    by : (b : Bool) → leb (j + 4) (length l - i) ≡ b → b ≡ leb (i + j + 4) (length l)
    by true e = let h = leb-true (j + 4) (length l - i) e in sym (le-leb (i + j + 4) (length l) (omega arith))
    by false e = let h = leb-false (j + 4) (length l - i) e in sym (lt-leb (i + j + 4) (length l) (omega arith))

-- the tuple at a place of what is left from another
pub tuple_beyond : (l : List Float) (i j : ℕ) → tuple_at (drop i l) j ≡ tuple_at l (i + j)
unfolding tuple_at
tuple_beyond l i j =
    rw (there-beyond l i j, get_or-drop i l j nan, get_or-drop i l (j + 1) nan, get_or-drop i l (j + 2) nan, get_or-drop i l (j + 3) nan, ← add_assoc i j 1, ← add_assoc i j 2, ← add_assoc i j 3)

-- ---- the state after each fix, and its result

-- what the track holds after fix j is the state that the run carries there
pub track_at : {S : Type 0} (four : S → Tuple) (f : Turns S) (k : ℕ) (state : S) (l : List Float) (j : ℕ) → 4 * j + 4 ≤ length l
    → tuple_at (track_of four f k state l) (4 * j) ≡ four (state_after_of f k state (take (4 * suc j) l))
track_at four f k state (x ∷ y ∷ z ∷ t ∷ rest) zero h = tuple_first _ _
track_at four f k state (x ∷ y ∷ z ∷ t ∷ rest) (suc j) h =
    let turn = f k state (four_of x y z t) in
    let new = track_of four f (suc k) turn.state rest in
    let e : 4 * suc j ≡ 4 + 4 * j = omega arith in
    let d : 4 * suc (suc j) ≡ suc (suc (suc (suc (4 * suc j)))) = omega arith in
    ap (tuple_at (numbers_of (four turn.state) ++ new)) e
    ∙ sym (tuple_beyond (numbers_of (four turn.state) ++ new) 4 (4 * j))
    ∙ track_at four f (suc k) turn.state rest j (omega arith)
    ∙ ap (λ (m : ℕ). four (state_after_of f k state (take m (x ∷ y ∷ z ∷ t ∷ rest)))) (sym d)
track_at four f k state (x ∷ y ∷ z ∷ []) j h = absurd (omega arith)
track_at four f k state (x ∷ y ∷ []) j h = absurd (omega arith)
track_at four f k state (x ∷ []) j h = absurd (omega arith)
track_at four f k state [] j h = absurd (omega arith)

-- the result of fix j: its turn, in the state that the run carries to it
pub result_at : {S : Type 0} (f : Turns S) (k : ℕ) (state : S) (l : List Float) (j : ℕ) → 4 * j + 4 ≤ length l
    → tuple_at (ran_of f k state l) (4 * j) ≡ (f (k + j) (state_after_of f k state (take (4 * j) l)) (tuple_at l (4 * j))).tuple
result_at f k state (x ∷ y ∷ z ∷ t ∷ rest) zero h =
    tuple_first _ _ ∙ rw (add-zero k) (ap (λ (v : Tuple). (f k state v).tuple) (sym (tuple_first (four_of x y z t) rest)))
result_at f k state (x ∷ y ∷ z ∷ t ∷ rest) (suc j) h =
    let turn = f k state (four_of x y z t) in
    let new = ran_of f (suc k) turn.state rest in
    let e : 4 * suc j ≡ 4 + 4 * j = omega arith in
    let d : 4 * suc j ≡ suc (suc (suc (suc (4 * j)))) = omega arith in
    let n : suc k + j ≡ k + suc j = omega arith in
    ap (tuple_at (numbers_of turn.tuple ++ new)) e
    ∙ sym (tuple_beyond (numbers_of turn.tuple ++ new) 4 (4 * j))
    ∙ result_at f (suc k) turn.state rest j (omega arith)
    ∙ ap (λ (m : ℕ). (f m (state_after_of f (suc k) turn.state (take (4 * j) rest)) (tuple_at rest (4 * j))).tuple) n
    ∙ ap (λ (v : Tuple). (f (k + suc j) (state_after_of f (suc k) turn.state (take (4 * j) rest)) v).tuple) (tuple_beyond (x ∷ y ∷ z ∷ t ∷ rest) 4 (4 * j))
    ∙ ap (λ (m : ℕ). (f (k + suc j) (state_after_of f (suc k) turn.state (take (4 * j) rest)) (tuple_at (x ∷ y ∷ z ∷ t ∷ rest) m)).tuple) (sym e)
    ∙ ap (λ (m : ℕ). (f (k + suc j) (state_after_of f k state (take m (x ∷ y ∷ z ∷ t ∷ rest))) (tuple_at (x ∷ y ∷ z ∷ t ∷ rest) (4 * suc j))).tuple) (sym d)
result_at f k state (x ∷ y ∷ z ∷ []) j h = absurd (omega arith)
result_at f k state (x ∷ y ∷ []) j h = absurd (omega arith)
result_at f k state (x ∷ []) j h = absurd (omega arith)
result_at f k state [] j h = absurd (omega arith)

-- what holds of the state before every turn holds of it after the last
pub state_keeps : {S : Type 0} (f : Turns S) (P : S → Type 0) → ((k : ℕ) (state : S) (v : Tuple) → P state → P (f k state v).state)
    → (k : ℕ) (state : S) (l : List Float) → P state → P (state_after_of f k state l)
state_keeps f P keeps k state (x ∷ y ∷ z ∷ t ∷ rest) p =
    state_keeps f P keeps (suc k) (f k state (four_of x y z t)).state rest (keeps k state (four_of x y z t) p)
state_keeps f P keeps k state (x ∷ y ∷ z ∷ []) p = p
state_keeps f P keeps k state (x ∷ y ∷ []) p = p
state_keeps f P keeps k state (x ∷ []) p = p
state_keeps f P keeps k state [] p = p
