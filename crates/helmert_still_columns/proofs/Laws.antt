-- A row through T, S and a matrix: what it leaves in the columns, and that it has passed the step
-- whose turn it is; the end of a loop over columns; and rows of one time. Assumes nothing.
use Prim.Native.Nat.{ℕ, ◌+◌, ◌*◌, ◌≤◌, ◌<◌}
use native.Mathlib.Nat.{eq-or-lt_of_le}
use native.Mathlib.Omega.{arith}
use mathlib.Core.Path.{◌≡◌, refl, sym, ap, ◌∙◌}
use mathlib.Core.Bool.{Bool, true, false}
use mathlib.Core.Logic.{◌⊎◌, inl, inr}
use mathlib.Core.List.{List}
use lib.ListN.{length, take, drop, set, length-append, take-append-drop}
use lib.Ieee.{Float, ne}
use Rattle.blocks.specs.Each.{at}
use Rattle.tuple.specs.declared.Tuple.{Tuple}
use Rattle.lists.specs.Flat.{four_of, tuple_at, put_at}
use Rattle.lists.specs.Run.{Turn, Turns, ran_of, state_after_of}
use Rattle.lists.proofs.Laws.{ran_length}
use Rattle.columns.specs.Columns.{Level, flat_of}
use Rattle.columns.specs.Passed.{whole_of, Passed}
use Rattle.columns.proofs.Laws.{flat-length, row-there, point-set}
use Rattle.columns.proofs.Passed.{turn_at, passed_as, passed-row, passed-list, passed-state}
use Rattle.rotation.specs.declared.Vec3.{Vec3}
use Rattle.rotation.specs.Matrix.{Matrix}
use Rattle.helmert.specs.Apply.{forward_of, inverse_of, apply_of, forward_about_of, inverse_about_of, apply_about_of}

pub apply_time : (inverse : Bool) (by : Vec3) (s : Float) (rotated : Bool) (m : Matrix) (v : Tuple) → (apply_of inverse by s rotated m v).t ≡ v.t
unfolding forward_of inverse_of
apply_time true by s rotated m v = refl
apply_time false by s rotated m v = refl

pub about_time : (inverse : Bool) (pivot by : Vec3) (s : Float) (rotated : Bool) (m : Matrix) (v : Tuple) → (apply_about_of inverse pivot by s rotated m v).t ≡ v.t
unfolding forward_about_of inverse_about_of
about_time true pivot by s rotated m v = refl
about_time false pivot by s rotated m v = refl

-- the three numbers of what a row becomes, its time kept, set in its place
module _ (x y z t : List Float) (h : Level x y z t) (i : ℕ) (k : i < length x) where
  pub row_put : (f : Tuple → Tuple) → ((v : Tuple) → (f v).t ≡ v.t) → {w : Tuple} → w ≡ f (four_of (at x i) (at y i) (at z i) (at t i))
      → flat_of (set x i w.x) (set y i w.y) (set z i w.z) t ≡ put_at (flat_of x y z t) (4 * i) (f (tuple_at (flat_of x y z t) (4 * i)))
  row_put f timed {w} e =
      point-set x y z t h i k w (ap (λ (v : Tuple). v.t) e ∙ timed _)
      ∙ ap (put_at (flat_of x y z t) (4 * i)) (e ∙ ap f (row-there x y z t h i k))

  -- through T, S and a matrix
  module _ (inverse : Bool) where
    pub row-applied : (by : Vec3) (s : Float) (rotated : Bool) (m : Matrix) {w : Tuple} → w ≡ apply_of inverse by s rotated m (four_of (at x i) (at y i) (at z i) (at t i))
        → flat_of (set x i w.x) (set y i w.y) (set z i w.z) t ≡ put_at (flat_of x y z t) (4 * i) (apply_of inverse by s rotated m (tuple_at (flat_of x y z t) (4 * i)))
    row-applied by s rotated m e = row_put (apply_of inverse by s rotated m) (apply_time inverse by s rotated m) e

-- a row that counts, from what its turn is
pub turned-row : {S : Type 0} {f : Turns S} {state now : S} {l l' : List Float} {v : Tuple} (i : ℕ) → 4 * i + 4 ≤ length l
    → turn_at f state l i ≡ record { state = now; tuple = v; counted = true } → l' ≡ put_at l (4 * i) v → Passed f i state l (i + 1) now l' 1
turned-row {S} {f} {state} {now} {l} {l'} {v} i h e el =
    passed_as refl (ap (λ (q : Turn S). q.state) e) refl
    (passed-row {c = true} i h (sym (ap (λ (q : Turn S). q.tuple) e)) (sym (ap (λ (q : Turn S). q.counted) e)) el)

-- ---- all rows

whole_length : {S : Type 0} (f : Turns S) (i : ℕ) (state : S) (l : List Float) → length (whole_of f i state l) ≡ length l
whole_length f i state l =
    length-append (take (4 * i) l) (ran_of f i state (drop (4 * i) l)) ∙ ap (λ (n : ℕ). length (take (4 * i) l) + n) (ran_length f i state (drop (4 * i) l))
    ∙ sym (length-append (take (4 * i) l) (drop (4 * i) l))
    ∙ ap length (take-append-drop (4 * i) l)

-- the end of a loop over columns, with the list's length told by the columns at the start
pub passed_through : {S : Type 0} {f : Turns S} {from state : S} (x y z t : List Float) {l : List Float} {i n : ℕ} → Level x y z t → length x ≤ i
    → Passed f 0 from (flat_of x y z t) i state l n → (l ≡ ran_of f 0 from (flat_of x y z t)) × (state ≡ state_after_of f 0 from (flat_of x y z t))
passed_through {S} {f} {from} {state} x y z t {l} {i} h all now =
    let long : length l ≡ 4 * length x =
    sym (whole_length f i state l) ∙ ap length now.whole ∙ whole_length f 0 from (flat_of x y z t) ∙ flat-length x y z t h in
    let end : length l ≤ 4 * i = omega arith in
    (passed-list i end now, passed-state i end now)

-- ---- rows of one time

-- one row more
pub still-more : (t : List Float) (last : Float) (i e : ℕ) → ((k : ℕ) → i ≤ k → k < e → ne (at t k) last ≡ false) → ne (at t e) last ≡ false
    → (k : ℕ) → i ≤ k → k < e + 1 → ne (at t k) last ≡ false
still-more t last i e before here k a b = here-or-before (eq-or-lt_of_le (up_to b))
  where
    up_to : k < e + 1 → k ≤ e
    up_to c = omega arith

    here-or-before : (k ≡ e) ⊎ (k < e) → ne (at t k) last ≡ false
    here-or-before (inl same) = ap (λ (j : ℕ). ne (at t j) last) same ∙ here
    here-or-before (inr c) = before k a c
