-- What is true of the lookup for every grid's bytes and every place, for callers to cite: present
-- exactly inside, absent at a NaN, and no node outside the grid. Assumes nothing.
use Rattle.std.proofs.Common.{◌≡◌, ℕ, ◌+◌, ◌-◌, ◌*◌, ◌<◌, ◌≤◌, Bool, true, false, cond, ◌&&◌, ltb, List, length, sym, refl, true≢false, suc-mul, mul-le-mul, add-one, arith, ltb-false}
use lib.Ieee.{Float, nan, inf, fin, le, lt, eq, to_unsigned}
use Rattle.grid_rules.specs.Layout.{row_count_of, column_count_of, node_offset_of, grid_length_of}
use Rattle.grid_rules.specs.Rules.{count_in_rule, refusal17}
use Rattle.grid_rules.proofs.Laws.{Counted, counted, laid_out}
use Rattle.grid.specs.declared.Axis.{Axis}
use Rattle.grid.specs.Lookup.{rows_of, columns_of, last_of, within_of, inside_of, cell_of, spacings_of, looked_up, present_of, absent_of, found_in, found_of}

-- ---- the nodes of a cell

-- the next node to the east stands 24 bytes on
pub next_east : (columns i j : ℕ) → node_offset_of columns i (j + 1) ≡ node_offset_of columns i j + 24
next_east columns i j = omega arith

-- a node of the next row stands no less far
pub next_row : (columns i j : ℕ) → node_offset_of columns i j ≤ node_offset_of columns (i + 1) j
next_row columns i j =
    let d : (i + 1) * columns ≡ i * columns + columns = rw (add-one i) (suc-mul i columns) in
    omega (arith, d)

-- a cell's line is never the last one, whatever number asks
pub cell_before_last : (count : ℕ) (u : Float) → 2 ≤ count → cell_of count u + 1 < count
unfolding cell_of
cell_before_last count u two = by-test (ltb (count - 2) (to_unsigned 64 u)) refl
  where
    by-test : (b : Bool) → ltb (count - 2) (to_unsigned 64 u) ≡ b → cond b (count - 2) (to_unsigned 64 u) + 1 < count
    by-test true e = omega arith
    by-test false e = omega (arith, ltb-false (count - 2) (to_unsigned 64 u) e)

-- every node of the counts stands within the length that they say
pub node_within : (rows columns i j : ℕ) → i < rows → j < columns → node_offset_of columns i j + 24 ≤ grid_length_of rows columns
node_within rows columns i j hi hj =
    let h : (i + 1) * columns ≤ rows * columns = mul-le-mul {n₂ = rows} {m₂ = columns} (omega arith) (omega arith) in
    let d : (i + 1) * columns ≡ i * columns + columns = suc-row i columns in
    omega (arith, h, d)
  where
    suc-row : (i c : ℕ) → (i + 1) * c ≡ i * c + c
    suc-row i c = rw (add-one i) (suc-mul i c)

-- So of a grid whose layout is kept every byte of the four nodes is there, for any place at all.
pub nodes_within : (s : List ℕ) (lam phi : Float) → refusal17 s ≡ false
    → node_offset_of (column_count_of s) (cell_of (row_count_of s) (spacings_of (rows_of s) phi) + 1) (cell_of (column_count_of s) (spacings_of (columns_of s) lam) + 1) + 24 ≤ length s
nodes_within s lam phi h =
    let l = laid_out s h in
    rw l.long
    (node_within (row_count_of s) (column_count_of s) _ _ (cell_before_last (row_count_of s) (spacings_of (rows_of s) phi) l.rows.two) (cell_before_last (column_count_of s) (spacings_of (columns_of s) lam) l.columns.two))

-- ---- inside and outside

-- a velocity is present exactly inside
pub present_exactly_inside : (s : List ℕ) (lam phi : Float) → (found_of s lam phi).mark ≡ cond (inside_of (rows_of s) (columns_of s) lam phi) 1 0
unfolding found_of found_in
present_exactly_inside s lam phi = by-test (inside_of (rows_of s) (columns_of s) lam phi)
  where
    by-test : (b : Bool) → (cond b (present_of (looked_up s (rows_of s) (columns_of s) lam phi)) absent_of).mark ≡ cond b 1 0
    by-test true = refl
    by-test false = refl

nothing_below_nan : (x : Float) → le x nan ≡ false
unfolding le lt eq
nothing_below_nan nan = refl
nothing_below_nan (inf s) = refl
nothing_below_nan (fin s m e) = refl

and_no : (b d : Bool) → (b && false && d) ≡ false
and_no true d = refl
and_no false d = refl

no_and : (b : Bool) → (b && false) ≡ false
no_and true = refl
no_and false = refl

nan_not_within : (a : Axis) → within_of a nan ≡ false
unfolding within_of
nan_not_within a = rw (nothing_below_nan a.start) (and_no (count_in_rule a.count) _)

-- a place that is NaN is outside, in either number
pub nan_is_outside : (s : List ℕ) (x : Float) → (found_of s nan x ≡ absent_of) × (found_of s x nan ≡ absent_of)
unfolding found_of found_in
nan_is_outside s x = (rw (nan_not_within (columns_of s), no_and (within_of (rows_of s) x)), rw (nan_not_within (rows_of s)))

-- ---- counts

and_l : (a b : Bool) → (a && b) ≡ true → a ≡ true
and_l true b h = refl
and_l false b h = absurd (true≢false (sym h))

and_r : (a b : Bool) → (a && b) ≡ true → b ≡ true
and_r true b h = h
and_r false b h = absurd (true≢false (sym h))

within-counted : (a : Axis) (x : Float) → within_of a x ≡ true → Counted a.count
unfolding within_of
within-counted a x h = counted (and_l (count_in_rule a.count) (le a.start x) (and_l (count_in_rule a.count && le a.start x) (le x (last_of a)) h))

-- inside, both counts are in rule
pub inside-counts : (rows columns : Axis) (lam phi : Float) → inside_of rows columns lam phi ≡ true → (rows.count ≤ 64) × (columns.count ≤ 64)
inside-counts rows columns lam phi h = (
  (within-counted rows phi (and_l (within_of rows phi) (within_of columns lam) h)).most,
  (within-counted columns lam (and_r (within_of rows phi) (within_of columns lam) h)).most,
)
