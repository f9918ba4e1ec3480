-- Sixteen rows that were loaded and put back as the step makes them have passed, of the step's turns
-- and of those that count what is told beside: the index that the step is given for a row is the one
-- of the turns. Assumes nothing.
use Prim.Native.Nat.{ℕ, ◌+◌, ◌*◌, ◌/◌, ◌≤◌}
use native.Mathlib.Omega.{arith}
use mathlib.Core.Path.{◌≡◌, refl, ap, ◌∙◌}
use mathlib.Core.Bool.{Bool}
use mathlib.Core.List.{List}
use lib.ListN.{length}
use lib.Ieee.{Float}
use Rattle.blocks.specs.Each.{Each, count_to}
use Rattle.blocks.proofs.Counts.{count_told}
use Rattle.tuple.specs.declared.Tuple.{Tuple}
use Rattle.tuple.specs.declared.Shifted.{Shifted}
use Rattle.tuple.specs.Columns.{row_of}
use Rattle.lists.specs.Sixteen.{row_at, put_block}
use Rattle.lists.proofs.Sixteen.{columns, retold, turned, taken}
use Rattle.helmert.specs.Turns.{no_state}
use Rattle.columns.specs.Passed.{Passed}
use Rattle.columns.proofs.Passed.{passed-sixteen}
use Rattle.fix_columns.specs.Fixes.{fix_turns, fix_met_turns}

pub fix-passed : (f : ℕ → Tuple → Shifted) (met : ℕ → Tuple → Bool) (i : ℕ) (l : List Float) → 4 * i + 64 ≤ length l → {x y z t : List Float}
    → Each x (λ (j : ℕ). (row_at l (4 * i) j).x) → Each y (λ (j : ℕ). (row_at l (4 * i) j).y) → Each z (λ (j : ℕ). (row_at l (4 * i) j).z) → Each t (λ (j : ℕ). (row_at l (4 * i) j).t)
    → {ox oy oz ot l' : List Float} {n q : ℕ}
    → Each ox (λ (j : ℕ). (f (i + j) (row_of x y z t j)).tuple.x) × Each oy (λ (j : ℕ). (f (i + j) (row_of x y z t j)).tuple.y)
    × Each oz (λ (j : ℕ). (f (i + j) (row_of x y z t j)).tuple.z) × Each ot (λ (j : ℕ). (f (i + j) (row_of x y z t j)).tuple.t)
    × (n ≡ count_to 16 (λ (j : ℕ). (f (i + j) (row_of x y z t j)).counted))
    × (q ≡ count_to 16 (λ (j : ℕ). met (i + j) (row_of x y z t j)))
    → l' ≡ put_block l (4 * i) ox oy oz ot
    → Passed (fix_turns f) i no_state l (i + 16) no_state l' n × Passed (fix_met_turns f met) i no_state l (i + 16) no_state l' q
fix-passed f met i l fits {x} {y} {z} {t} ex ey ez et s el =
    let index : (j : ℕ) → i + j ≡ 4 * i / 4 + j = λ j. omega arith in
    let g = fix_turns f in
    let h = fix_met_turns f met in
    let read = columns (row_at l (4 * i)) ex ey ez et in
    let made =
    retold (λ j few. ap (λ (k : ℕ). (f k (row_of x y z t j)).tuple) (index j))
    (columns (λ (j : ℕ). (f (i + j) (row_of x y z t j)).tuple) s.0 s.1 s.2 s.3) in
    let counts = s.4 ∙ count_told 16 _ _ (λ j few. ap (λ (k : ℕ). (f k (row_of x y z t j)).counted) (index j)) in
    let meets = s.5 ∙ count_told 16 _ _ (λ j few. ap (λ (k : ℕ). met k (row_of x y z t j)) (index j)) in
    (passed-sixteen (λ k v. refl) i fits (turned g no_state l (4 * i) read made el) (taken g no_state l (4 * i) read counts), passed-sixteen (λ k v. refl) i fits (turned h no_state l (4 * i) read made el) (taken h no_state l (4 * i) read meets))
