-- What is found inside an accepted grid is finite where every number of the nodes has a magnitude of
-- at most 2^1000 mm a year (`found_is_finite`). A place inside is no less than the first line, so the
-- quotient is not below zero, and it is used only below count - 1: so u is at most 64, its share at
-- most 128 by magnitude, and a weight at most 129·129. Four products of such weights with 2^1000
-- cannot overflow, nor can their sums. Assumes nothing.
use Rattle.std.proofs.Common.{◌≡◌, ℕ, zero, suc, ◌+◌, ◌-◌, ◌*◌, ◌^◌, ◌<◌, ◌≤◌, Bool, true, false, cond, ◌&&◌, ◌||◌, T, eqb, ltb, List, pos, sym, refl, ap, ◌∙◌, subst, true≢false, zero-le, le_trans, le_of_eq, le_refl, zero-lt-suc, mul-pos, zero-mul, arith, ltb-true, le-ltb, ne_eqb, eqb-true}
use lib.Ieee.{Float, nan, inf, fin, Format, binary64, prec, emax, low, size, odd, units, round, up, down, of_bits, of_int, add, sub, div, sum, neg, le, lt, eq}
use lib.Ieee.Fits.{round_is, up_pos, down_pos}
use lib.Ieee.Back.{round_whole}
use lib.Ieee.Exact.{HasValue}
use lib.Ieee.Order.{drop, kept}
use lib.Ieee.Scale.{finite}
use Rattle.floats.specs.Binary64.{◌⊕◌, ◌⊖◌, ◌⊗◌, ◌⊘◌, bits}
use Rattle.floats.proofs.Zero.{not_below_zero, below_zero}
use Rattle.grid_rules.specs.Layout.{row_count_of, column_count_of, numbers_of}
use Rattle.grid_rules.specs.Rules.{count_in_rule, check_grid_of}
use Rattle.grid_rules.proofs.Laws.{Counted, LaidOut, InRule, accepted_exactly, laid_out, in_rule}
use Rattle.grid.specs.declared.Axis.{Axis}
use Rattle.grid.specs.declared.Node.{Node}
use Rattle.grid.specs.declared.Weights.{Weights}
use Rattle.grid.specs.Lookup.{rows_of, columns_of, as_number, far_of, last_of, within_of, inside_of, quotient_of, spacings_of, lesser_of, cell_of, share_of, node_of, one, weights_of, mix_of, mixed_of, cell_velocity_of, looked_up}
use Rattle.grid.proofs.Laws.{cell_before_last}
use Rattle.grid.proofs.Zeros.{zero_of, no_part, no_choice}
use Rattle.grid.proofs.Bounds.{AtMost, Exact, at_most_finite, at_most_more, below_or_level, le_at_most, round_at_most, mul_at_most, add_at_most, sub_at_most}

-- ---- numbers that are not below zero

abbrev NotBelow : Float → Type 0
NotBelow x = lt x (bits 0) ≡ false

none_above : (y : Float) → lt (inf false) y ≡ false
unfolding lt
none_above nan = refl
none_above (inf t) = refl
none_above (fin t n d) = refl

by_units : (b : Bool) (d q j l : ℕ) → NotBelow (cond b (odd d false q j l) (inf false))
unfolding odd
by_units true d zero j l = not_below_zero 0 (pos 0)
by_units true d (suc q) j l = not_below_zero _ _
by_units false d q j l = none_above (bits 0)

units_not_below : (f : Format) (q j : ℕ) → NotBelow (units f false q j)
unfolding units
units_not_below f q j = by_units (ltb (q * 2 ^ j) (2 ^ (low f + suc (emax f)))) (suc (prec f)) q j (low f)

round_not_below : (a c : ℕ) → NotBelow (round binary64 false a c)
round_not_below a c =
    let n = a * 2 ^ low binary64 in
    ap (λ (x : Float). lt x (bits 0)) (round_is binary64 false a c) ∙ units_not_below binary64 (kept 53 n c) (drop 53 n c)

zero_not_below : (s : Bool) → NotBelow (zero_of s)
unfolding lt of_bits
zero_not_below true = refl
zero_not_below false = refl

and_l : (a b : Bool) → (a && b) ≡ true → a ≡ true
and_l true b h = refl
and_l false b h = absurd (true≢false (sym h))

and_r : (a b : Bool) → (a && b) ≡ true → b ≡ true
and_r true b h = h
and_r false b h = absurd (true≢false (sym h))

or_r : (a b : Bool) → a ≡ false → (a || b) ≡ true → b ≡ true
or_r true b h g = absurd (true≢false h)
or_r false b h g = g

-- what is no less than another number, less that number
pub difference_not_below : (x y : Float) → finite x ≡ true → finite y ≡ true → le y x ≡ true → NotBelow (x ⊖ y)
unfolding sub neg add sum le lt eq
difference_not_below nan y f g h = absurd (true≢false (sym f))
difference_not_below (inf s) y f g h = absurd (true≢false (sym f))
difference_not_below (fin s m e) nan f g h = absurd (true≢false (sym g))
difference_not_below (fin s m e) (inf t) f g h = absurd (true≢false (sym g))
difference_not_below (fin false m e) (fin false n d) f g h =
    rw (le-ltb (m * up e * down d) (n * up d * down e) (below_or_level (n * up d * down e) (m * up e * down d) (subst T (sym h) tt)))
    (round_not_below (m * up e * down d - n * up d * down e) (down e * down d))
difference_not_below (fin false m e) (fin true n d) f g h = round_not_below (m * up e * down d + n * up d * down e) (down e * down d)
difference_not_below (fin true m e) (fin false n d) f g h =
    let same = eqb-true (n * up d * down e) (m * up e * down d) (and_l (eqb (n * up d * down e) (m * up e * down d)) (eqb (n * up d * down e) 0) h) in
    let none = eqb-true (n * up d * down e) 0 (and_r (eqb (n * up d * down e) (m * up e * down d)) (eqb (n * up d * down e) 0) h) in
    ap (λ (x : Float). lt x (bits 0)) (no_part true (m * up e * down d + n * up d * down e) (down e * down d) (omega (arith, same, none)) (mul-pos (down_pos e) (down_pos d))) ∙ zero_not_below true
difference_not_below (fin true m e) (fin true n d) f g h = by-test (ltb (m * up e * down d) (n * up d * down e)) refl
  where
    A : ℕ
    A = m * up e * down d

    B : ℕ
    B = n * up d * down e

    by-test : (b : Bool) → ltb A B ≡ b → NotBelow (cond b (round binary64 false (B - A) (down e * down d)) (round binary64 (true && ltb B A) (A - B) (down e * down d)))
    by-test true k = round_not_below (B - A) (down e * down d)
    by-test false k =
        let same = eqb-true B A (and_l (eqb B A) (true || eqb B 0) (or_r (ltb A B) (eqb B A && (true || eqb B 0)) k h)) in
        rw (le-ltb B A (le_of_eq (sym same))) (round_not_below (A - B) (down e * down d))

pub quotient_not_below : (z y : Float) → NotBelow z → finite y ≡ true → lt (bits 0) y ≡ true → NotBelow (z ⊘ y)
unfolding div lt of_bits
quotient_not_below z nan h f g = absurd (true≢false (sym f))
quotient_not_below z (inf s) h f g = absurd (true≢false (sym f))
quotient_not_below z (fin true n d) h f g = absurd (true≢false (sym g))
quotient_not_below z (fin false zero d) h f g = absurd (none (ltb-true (0 * 1 * down d) (0 * up d * 1) g))
  where
    none : 0 * 1 * down d < 0 * up d * 1 → ⊥
    none k = omega arith
quotient_not_below nan (fin false (suc n) d) h f g = refl
quotient_not_below (inf true) (fin false (suc n) d) h f g = absurd (true≢false h)
quotient_not_below (inf false) (fin false (suc n) d) h f g = refl
quotient_not_below (fin false m e) (fin false (suc n) d) h f g =
    ap (λ (x : Float). lt x (bits 0)) (no_choice (eqb (suc n) 0) _ _ (ne_eqb (suc n) 0 (λ q. omega (arith, q)))) ∙ round_not_below (m * up e * down d) (suc n * up d * down e)
quotient_not_below (fin true zero e) (fin false (suc n) d) h f g =
    ap (λ (x : Float). lt x (bits 0))
    (no_choice (eqb (suc n) 0) _ _ (ne_eqb (suc n) 0 (λ q. omega (arith, q)))
    ∙ no_part true (0 * up e * down d) (suc n * up d * down e) (ap (λ (w : ℕ). w * down d) (zero-mul (up e)) ∙ zero-mul (down d)) (mul-pos (mul-pos (zero-lt-suc n) (up_pos d)) (down_pos e)))
    ∙ zero_not_below true
quotient_not_below (fin true (suc m) e) (fin false (suc n) d) h f g = absurd (true≢false (sym (below_zero m e) ∙ h))

-- ---- bounds

exact64 : Exact 64
unfolding round size units odd
exact64 = (refl, refl)

exact128 : Exact 128
unfolding round size units odd
exact128 = (refl, refl)

exact129 : Exact 129
unfolding round size units odd
exact129 = (refl, refl)

exact16641 : Exact 16641
unfolding round size units odd
exact16641 = (refl, refl)

abbrev pub bound : ℕ
bound = 2 ^ 1000

exact_term : Exact (16641 * bound)
unfolding round size units odd
exact_term = (refl, refl)

exact_two : Exact (16641 * bound + 16641 * bound)
unfolding round size units odd
exact_two = (refl, refl)

exact_three : Exact (16641 * bound + 16641 * bound + 16641 * bound)
unfolding round size units odd
exact_three = (refl, refl)

exact_four : Exact (16641 * bound + 16641 * bound + 16641 * bound + 16641 * bound)
unfolding round size units odd
exact_four = (refl, refl)

whole_at_most : (n : ℕ) → n ≤ 64 → AtMost 64 (as_number n)
unfolding of_int
whole_at_most n h = round_at_most 64 exact64 false n 1 (zero-lt-suc 0) (omega arith)

below_is_le : (x y : Float) → lt x y ≡ true → T (le x y)
unfolding le
below_is_le x y h = rw h tt

nan_below : (y : Float) → lt nan y ≡ false
unfolding lt
nan_below y = refl

lowest : lt (inf true) (bits 0) ≡ true
unfolding lt of_bits
lowest = refl

value : (n : ℕ) → n ≤ 64 → HasValue (as_number n) false n 1
unfolding of_int
value n h = round_whole binary64 false n (omega arith)

bounded : (q : Float) (n : ℕ) → n ≤ 64 → NotBelow q → lt q (as_number n) ≡ true → AtMost 64 q
bounded nan n l h g = absurd (true≢false (sym g ∙ nan_below (as_number n)))
bounded (inf true) n l h g = absurd (true≢false (sym lowest ∙ h))
bounded (inf false) n l h g = absurd (true≢false (sym g ∙ none_above (as_number n)))
bounded (fin false m e) n l h g = at_most_more n 64 (fin false m e) l (le_at_most n m e (as_number n) (value n l) (below_is_le (fin false m e) (as_number n) g))
bounded (fin true zero e) n l h g = le_trans (le_of_eq (zero-mul (up e))) zero-le
bounded (fin true (suc m) e) n l h g = absurd (true≢false (sym (below_zero m e) ∙ h))

-- ---- an axis

-- what is known of an axis of an accepted grid
pub record Ruled (a : Axis) : Type 0 where
  pub count : Counted a.count
  pub start : finite a.start ≡ true
  pub step : finite a.step ≡ true
  pub above : lt (bits 0) a.step ≡ true

between_finite : (x y z : Float) → finite x ≡ true → le x y ≡ true → lt y z ≡ true → finite y ≡ true
unfolding le lt eq
between_finite x nan z f h g = absurd (true≢false (sym g))
between_finite nan (inf t) z f h g = absurd (true≢false (sym f))
between_finite (inf s) (inf t) z f h g = absurd (true≢false (sym f))
between_finite (fin s m e) (inf true) z f h g = absurd (true≢false (sym h))
between_finite (fin s m e) (inf false) nan f h g = absurd (true≢false (sym g))
between_finite (fin s m e) (inf false) (inf t) f h g = absurd (true≢false (sym g))
between_finite (fin s m e) (inf false) (fin t n d) f h g = absurd (true≢false (sym g))
between_finite x (fin t n d) z f h g = refl

at_start_lem : (a : Axis) (x : Float) → within_of a x ≡ true → le a.start x ≡ true
unfolding within_of
at_start_lem a x h = and_r (count_in_rule a.count) (le a.start x) (and_l (count_in_rule a.count && le a.start x) (le x (last_of a)) h)

pub spacings_at_most : (a : Axis) → Ruled a → (x : Float) → within_of a x ≡ true → AtMost 64 (spacings_of a x)
unfolding spacings_of quotient_of
spacings_at_most a r x h = by_last (lt x (last_of a)) refl
  where
    few : a.count - 1 ≤ 64
    few = let m = r.count.most in omega arith

    by-far : (b : Bool) → lt ((x ⊖ a.start) ⊘ a.step) (far_of a.count) ≡ b → lt x (last_of a) ≡ true → AtMost 64 (cond b ((x ⊖ a.start) ⊘ a.step) (far_of a.count))
    by-far true k l =
        bounded ((x ⊖ a.start) ⊘ a.step) (a.count - 1) few
        (quotient_not_below (x ⊖ a.start) a.step (difference_not_below x a.start (between_finite a.start x (last_of a) r.start (at_start_lem a x h) l) r.start (at_start_lem a x h)) r.step r.above)
        k
    by-far false k l = whole_at_most (a.count - 1) few

    by_last : (b : Bool) → lt x (last_of a) ≡ b → AtMost 64 (cond b (lesser_of ((x ⊖ a.start) ⊘ a.step) (far_of a.count)) (far_of a.count))
    by_last true l = by-far (lt ((x ⊖ a.start) ⊘ a.step) (far_of a.count)) refl l
    by_last false l = whole_at_most (a.count - 1) few

-- ---- weights and sums

share_at_most : (u : Float) (k : ℕ) → k ≤ 64 → AtMost 64 u → AtMost 128 (share_of u k)
share_at_most u k l h = sub_at_most 64 64 exact128 u (as_number k) h (whole_at_most k l)

one_at_most : AtMost 1 one
unfolding of_bits
one_at_most = le_refl 1

rest_at_most : (f : Float) → AtMost 128 f → AtMost 129 (one ⊖ f)
rest_at_most f h = sub_at_most 1 128 exact129 one f one_at_most h

pub record Weighed (w : Weights) : Type 0 where
  pub sw : AtMost 16641 w.sw
  pub se : AtMost 16641 w.se
  pub nw : AtMost 16641 w.nw
  pub ne : AtMost 16641 w.ne

more : (f : Float) → AtMost 128 f → AtMost 129 f
more f h = at_most_more 128 129 f (omega arith) h

weighed : (f g : Float) → AtMost 128 f → AtMost 128 g → Weighed (weights_of f g)
weighed f g h k =
    record {
      sw = mul_at_most 129 129 exact16641 (one ⊖ f) (one ⊖ g) (rest_at_most f h) (rest_at_most g k);
      se = mul_at_most 129 129 exact16641 (one ⊖ f) g (rest_at_most f h) (more g k);
      nw = mul_at_most 129 129 exact16641 f (one ⊖ g) (more f h) (rest_at_most g k);
      ne = mul_at_most 129 129 exact16641 f g (more f h) (more g k);
    }

term : (w x : Float) → AtMost 16641 w → AtMost bound x → AtMost (16641 * bound) (w ⊗ x)
term w x h g = mul_at_most 16641 bound exact_term w x h g

mix_finite : (w : Weights) → Weighed w → (sw se nw ne : Float) → AtMost bound sw → AtMost bound se → AtMost bound nw → AtMost bound ne → finite (mix_of w sw se nw ne) ≡ true
mix_finite w h sw se nw ne a b c d =
    let t1 = term w.sw sw h.sw a in
    let t2 = term w.se se h.se b in
    let t3 = term w.nw nw h.nw c in
    let t4 = term w.ne ne h.ne d in
    let two = add_at_most (16641 * bound) (16641 * bound) exact_two (w.sw ⊗ sw) (w.se ⊗ se) t1 t2 in
    let three = add_at_most (16641 * bound + 16641 * bound) (16641 * bound) exact_three (w.sw ⊗ sw ⊕ w.se ⊗ se) (w.nw ⊗ nw) two t3 in
    at_most_finite (16641 * bound + 16641 * bound + 16641 * bound + 16641 * bound) (mix_of w sw se nw ne)
    (add_at_most (16641 * bound + 16641 * bound + 16641 * bound) (16641 * bound) exact_four (w.sw ⊗ sw ⊕ w.se ⊗ se ⊕ w.nw ⊗ nw) (w.ne ⊗ ne) three t4)

-- ---- the law

-- a velocity whose three numbers have a magnitude of at most 2^1000
pub record NodeAtMost (v : Node) : Type 0 where
  pub east : AtMost bound v.east
  pub north : AtMost bound v.north
  pub up : AtMost bound v.up

pub record FiniteNode (v : Node) : Type 0 where
  pub east : finite v.east ≡ true
  pub north : finite v.north ≡ true
  pub up : finite v.up ≡ true

mixed_finite : (w : Weights) → Weighed w → (sw se nw ne : Node) → NodeAtMost sw → NodeAtMost se → NodeAtMost nw → NodeAtMost ne → FiniteNode (mixed_of w sw se nw ne)
unfolding mixed_of
mixed_finite w h sw se nw ne a b c d =
    record {
      east = mix_finite w h sw.east se.east nw.east ne.east a.east b.east c.east d.east;
      north = mix_finite w h sw.north se.north nw.north ne.north a.north b.north c.north d.north;
      up = mix_finite w h sw.up se.up nw.up ne.up a.up b.up c.up d.up;
    }

pub found_is_finite : (s : List ℕ) → check_grid_of s ≡ 0
    → ((i j : ℕ) → i < row_count_of s → j < column_count_of s → NodeAtMost (node_of s (column_count_of s) i j))
    → (lam phi : Float) → inside_of (rows_of s) (columns_of s) lam phi ≡ true → FiniteNode (looked_up s (rows_of s) (columns_of s) lam phi)
unfolding looked_up cell_velocity_of
found_is_finite s ok nodes lam phi h =
    mixed_finite _ (weighed _ _ (share_at_most u i (few (row_count_of s) i below_row l.rows.most) (spacings_at_most (rows_of s) rows phi (and_l (within_of (rows_of s) phi) (within_of (columns_of s) lam) h))) (share_at_most v j (few (column_count_of s) j below-column l.columns.most) (spacings_at_most (columns_of s) columns lam (and_r (within_of (rows_of s) phi) (within_of (columns_of s) lam) h))))
    (node_of s (column_count_of s) i j)
    (node_of s (column_count_of s) i (j + 1))
    (node_of s (column_count_of s) (i + 1) j)
    (node_of s (column_count_of s) (i + 1) (j + 1))
    (nodes i j (before (row_count_of s) i below_row) (before (column_count_of s) j below-column))
    (nodes i (j + 1) (before (row_count_of s) i below_row) below-column)
    (nodes (i + 1) j below_row (before (column_count_of s) j below-column))
    (nodes (i + 1) (j + 1) below_row below-column)
  where
    l : LaidOut s
    l = laid_out s ((accepted_exactly s).0 ok).0

    r : InRule s
    r = in_rule s ((accepted_exactly s).0 ok).1

    four : (k : ℕ) → k < 4 → k < numbers_of s
    four k g = let long = l.long in omega (arith, long)

    rows : Ruled (rows_of s)
    rows = record { count = l.rows; start = r.numbers 0 (four 0 (omega arith)); step = r.numbers 2 (four 2 (omega arith)); above = r.latitude-spacing }

    columns : Ruled (columns_of s)
    columns = record { count = l.columns; start = r.numbers 1 (four 1 (omega arith)); step = r.numbers 3 (four 3 (omega arith)); above = r.longitude-spacing }

    u : Float
    u = spacings_of (rows_of s) phi

    v : Float
    v = spacings_of (columns_of s) lam

    i : ℕ
    i = cell_of (row_count_of s) u

    j : ℕ
    j = cell_of (column_count_of s) v

    below_row : i + 1 < row_count_of s
    below_row = cell_before_last (row_count_of s) u l.rows.two

    below-column : j + 1 < column_count_of s
    below-column = cell_before_last (column_count_of s) v l.columns.two

    few : (n k : ℕ) → k + 1 < n → n ≤ 64 → k ≤ 64
    few n k g m = omega arith

    before : (n k : ℕ) → k + 1 < n → k < n
    before n k g = omega arith
