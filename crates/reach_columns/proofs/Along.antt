-- A count over rows that are read and not written: what is counted before row i, and what is still
-- to come (`Along`). A count never looks at the tuple that a turn gives, so one law carries every
-- pass from a row to the next. Assumes nothing.
use Prim.Native.Nat.{ℕ, suc, ◌+◌, ◌*◌, ◌≤◌, ◌<◌}
use native.Mathlib.Omega.{arith}
use native.Mathlib.Nat.{add_assoc, add-zero, zero-add}
use mathlib.Core.Path.{◌≡◌, refl, sym, ap, ◌∙◌, subst}
use mathlib.Core.Bool.{Bool, true, false, cond}
use mathlib.Core.List.{List, [], ◌∷◌}
use lib.ListN.{length, drop, drop_of_length-le}
use lib.Ieee.{Float}
use Rattle.blocks.proofs.Counts.{at_most_one}
use Rattle.tuple.specs.declared.Tuple.{Tuple}
use Rattle.lists.specs.Flat.{four_of, tuple_at}
use Rattle.lists.specs.Run.{Turns, count_of}
use Rattle.lists.proofs.Places.{from_place}
use Rattle.lists.proofs.Laws.{count_all}
use Rattle.helmert.specs.declared.State.{State}
use Rattle.helmert.specs.Turns.{no_state, number_of}
use Rattle.helmert.proofs.Counts.{count_by_tuple}
use Rattle.columns.specs.Columns.{Level, flat_of}
use Rattle.columns.proofs.Laws.{flat-length, room, row-there}
use Rattle.blocks.specs.Each.{at}

-- n of the rows before row i counted; the run reaches row i in a state
pub record Along {S : Type 0} (f : Turns S) (from : S) (l : List Float) (i : ℕ) (state : S) (n : ℕ) : Type 0 where
  pub total : n + count_of f i state (drop (4 * i) l) ≡ count_of f 0 from l
  pub few : n ≤ i

pub along_start : {S : Type 0} (f : Turns S) (from : S) (l : List Float) → Along f from l 0 from 0
along_start f from l = record { total = zero-add (count_of f 0 from l); few = omega arith }

pub along_again : {S : Type 0} {f : Turns S} {from state : S} {l : List Float} (i : ℕ) {n : ℕ} {c : Bool} {v : ℕ} → 4 * i + 4 ≤ length l
    → c ≡ (f i state (tuple_at l (4 * i))).counted → v ≡ cond c 1 0
    → Along f from l i state n → Along f from l (i + 1) (f i state (tuple_at l (4 * i))).state (n + v)
along_again {S} {f} {from} {state} {l} i {n} {c} {v} h ec ev now =
    let next : 4 * (i + 1) ≡ 4 * i + 4 = omega arith in
    let one : i + 1 ≡ suc i = omega arith in
    record {
      total = rw (next, one, ev, ec, add_assoc n) (rw (from_place l (4 * i) h) at now.total);
      few = rw ev (omega (arith, at_most_one c, now.few));
    }

-- the same at an index, a state and a count that are equal
pub along_as : {S : Type 0} {f : Turns S} {from s u : S} {l : List Float} {i j m n : ℕ} → i ≡ j → s ≡ u → m ≡ n → Along f from l i s m → Along f from l j u n
along_as {S} {f} {from} {s} {u} {l} {i} {j} {m} {n} ei es em now =
    subst (λ (k : ℕ). Along f from l j u k) em
    (subst (λ (q : S). Along f from l j q m) es
    (subst (λ (k : ℕ). Along f from l k s m) ei now))

pub along_end : {S : Type 0} {f : Turns S} {from state : S} {l : List Float} (i : ℕ) {n : ℕ} → length l ≤ 4 * i → Along f from l i state n → n ≡ count_of f 0 from l
along_end {l = l} i {n} h now = rw (drop_of_length-le l {i = 4 * i} h, add-zero n) at now.total

-- ---- a pass that asks the tuple alone

abbrev pub asking : (Tuple → Bool) → Turns State
asking p k state v = record { state = state; tuple = v; counted = p v }

-- what it has counted before row i
abbrev pub Asked : (Tuple → Bool) → List Float → ℕ → ℕ → Type 0
Asked p l i n = Along (asking p) no_state l i no_state n

pub asked_end : (p : Tuple → Bool) (x y z t : List Float) → Level x y z t → (i : ℕ) {n : ℕ} → length x ≤ i → Asked p (flat_of x y z t) i n → n ≡ number_of p (flat_of x y z t)
asked_end p x y z t level i h now =
    along_end i (rw (flat-length x y z t level) (omega (arith, h))) now
    ∙ count_by_tuple (asking p) p (λ k state v. refl) 0 no_state (flat_of x y z t)

-- by the numbers of the row
pub asked_again : (p : Tuple → Bool) (x y z t : List Float) → Level x y z t → (i : ℕ) → i < length x → {n : ℕ} {c : Bool} {v : ℕ}
    → c ≡ p (four_of (at x i) (at y i) (at z i) (at t i)) → v ≡ cond c 1 0
    → Asked p (flat_of x y z t) i n → Asked p (flat_of x y z t) (i + 1) (n + v)
asked_again p x y z t level i h ec ev now =
    along_again i (room x y z t level i h) (ec ∙ ap p (row-there x y z t level i h)) ev now

-- ---- all or none

pub count_none : {S : Type 0} (f : Turns S) → ((k : ℕ) (state : S) (v : Tuple) → (f k state v).counted ≡ false)
    → (k : ℕ) (state : S) (l : List Float) → count_of f k state l ≡ 0
count_none f none k state (x ∷ y ∷ z ∷ t ∷ rest) =
    rw (none k state (four_of x y z t), count_none f none (suc k) (f k state (four_of x y z t)).state rest)
count_none f none k state (x ∷ y ∷ z ∷ []) = refl
count_none f none k state (x ∷ y ∷ []) = refl
count_none f none k state (x ∷ []) = refl
count_none f none k state [] = refl

pub count_rows : {S : Type 0} (f : Turns S) → ((k : ℕ) (state : S) (v : Tuple) → (f k state v).counted ≡ true)
    → (k : ℕ) (state : S) (x y z t : List Float) → Level x y z t → length x ≡ count_of f k state (flat_of x y z t)
count_rows f all k state x y z t level = sym (count_all f all k state (flat_of x y z t) ∙ rw (flat-length x y z t level) (omega arith))
