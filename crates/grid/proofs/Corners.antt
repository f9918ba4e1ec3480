-- At each of the four corners' places the corner's own node is found (`south-west-corner` and its
-- sisters): on the first line the quotient is +0, so the share is; on the last line u is count - 1
-- by comparison, so the share is 1. Then one weight is 1 and the others are +0, and three of the
-- four terms are zeros. That two whole numbers in a row lie 1 apart is evaluated for each count.
-- Assumes nothing.
use Rattle.std.proofs.Common.{◌≡◌, ℕ, zero, suc, ◌+◌, ◌-◌, ◌*◌, ◌^◌, ◌<◌, ◌≤◌, Bool, true, false, ◌&&◌, ◌||◌, eqb, List, sym, refl, ap, ◌∙◌, ⊎_elim, true≢false, eq-or-lt_of_le, arith, le→leb, le-ltb, lt-ltb, eq-eqb, eqb-true, le-leb}
use lib.Ieee.{Float, nan, inf, fin, binary64, of_bits, of_int, round, size, units, odd, to_bits, add, sub, sum, mul, neg, in_float, to_unsigned, le, lt, eq, up, down}
use lib.Ieee.Bits.{of_bits-fits, of_bits-to_bits}
use lib.Ieee.Back.{unsigned_back}
use lib.Ieee.Fits.{sub-fits}
use lib.Ieee.Scale.{finite}
use Rattle.floats.specs.Binary64.{◌⊖◌, bits}
use Rattle.floats.specs.Number.{sign_of}
use Rattle.words.specs.Words.{word64, number_at}
use Rattle.grid_rules.specs.Layout.{row_count_of, column_count_of, south_of, west_of, numbers_of}
use Rattle.grid_rules.specs.Rules.{count_in_rule, check_grid_of}
use Rattle.grid_rules.proofs.Laws.{Counted, LaidOut, InRule, accepted_exactly, laid_out, in_rule}
use Rattle.grid.specs.declared.Axis.{Axis}
use Rattle.grid.specs.declared.Node.{Node}
use Rattle.grid.specs.declared.Weights.{Weights}
use Rattle.grid.specs.Lookup.{rows_of, columns_of, as_number, far_of, last_of, within_of, quotient_of, spacings_of, cell_of, share_of, node_of, one, weights_of, mix_of, mixed_of, cell_velocity_of, looked_up, present_of, found_in, found_of}
use Rattle.grid.proofs.Laws.{node_within}
use Rattle.grid.proofs.Zeros.{Held, corner_of, itself_less_itself, zero_over, once, none, first_stays, second_stays, third_stays, fourth_stays}

-- ---- whole numbers in a row

-- line k + 1 stands after +0, and one after line k
tested : ℕ → Bool
tested k = eqb (to_bits binary64 (as_number (suc k) ⊖ as_number k)) 0x3ff0_0000_0000_0000 && lt (bits 0) (as_number (suc k))

tested_to : ℕ → Bool
tested_to zero = true
tested_to (suc k) = tested_to k && tested k

all_tested : tested_to 63 ≡ true
unfolding tested_to tested of_int round size units odd of_bits to_bits add sub sum neg lt
all_tested = refl

and_l : (a b : Bool) → (a && b) ≡ true → a ≡ true
and_l true b h = refl
and_l false b h = absurd (true≢false (sym h))

and_r : (a b : Bool) → (a && b) ≡ true → b ≡ true
and_r true b h = h
and_r false b h = absurd (true≢false (sym h))

each_tested : (n k : ℕ) → tested_to n ≡ true → k < n → tested k ≡ true
unfolding tested_to
each_tested zero k h l = absurd (no l)
  where
    no : k < 0 → ⊥
    no g = omega arith
each_tested (suc n) k h l =
    ⊎_elim (λ e. ap tested e ∙ and_r (tested_to n) (tested n) h) (λ g. each_tested n k (and_l (tested_to n) (tested n) h) g) (eq-or-lt_of_le (at_most_lem l))
  where
    at_most_lem : k < suc n → k ≤ n
    at_most_lem g = omega arith

one_apart : (k : ℕ) → k < 63 → as_number (suc k) ⊖ as_number k ≡ one
unfolding tested
one_apart k h =
    let x = as_number (suc k) ⊖ as_number k in
    let e = eqb-true (to_bits binary64 x) 0x3ff0_0000_0000_0000 (and_l (eqb (to_bits binary64 x) 0x3ff0_0000_0000_0000) (lt (bits 0) (as_number (suc k))) (each_tested 63 k all_tested h)) in
    sym (of_bits-to_bits binary64 x (sub-fits binary64 (as_number (suc k)) (as_number k))) ∙ ap (λ (b : ℕ). bits b) e

after_none : (k : ℕ) → k < 63 → lt (bits 0) (as_number (suc k)) ≡ true
unfolding tested
after_none k h = and_r (eqb (to_bits binary64 (as_number (suc k) ⊖ as_number k)) 0x3ff0_0000_0000_0000) (lt (bits 0) (as_number (suc k))) (each_tested 63 k all_tested h)

whole_of : (n : ℕ) → n ≤ 64 → to_unsigned 64 (as_number n) ≡ n
unfolding in_float
whole_of n h = (unsigned_back binary64 64 n (le→leb n (2 ^ 53) (omega arith)) (omega arith)).1

-- ---- comparisons

not_below_itself : (x : Float) → lt x x ≡ false
unfolding lt
not_below_itself nan = refl
not_below_itself (inf true) = refl
not_below_itself (inf false) = refl
not_below_itself (fin true m e) = le-ltb (m * up e * down e) (m * up e * down e) (omega arith)
not_below_itself (fin false m e) = le-ltb (m * up e * down e) (m * up e * down e) (omega arith)

below_is_at_most : (x y : Float) → lt x y ≡ true → le x y ≡ true
unfolding le
below_is_at_most x y h = rw h

or_true : (b : Bool) → (b || true) ≡ true
or_true true = refl
or_true false = refl

itself : (n : ℕ) → eqb n n ≡ true
itself n = eq-eqb n n refl

-- what lies below or above another number is no NaN
equal_left : (x y : Float) → lt x y ≡ true → eq x x ≡ true
unfolding lt eq
equal_left nan y h = absurd (true≢false (sym h))
equal_left (inf true) y h = refl
equal_left (inf false) y h = refl
equal_left (fin true m e) y h = rw (itself (m * up e * down e))
equal_left (fin false m e) y h = rw (itself (m * up e * down e))

equal_right : (x y : Float) → lt x y ≡ true → eq y y ≡ true
unfolding lt eq
equal_right nan y h = absurd (true≢false (sym h))
equal_right (inf s) nan h = absurd (true≢false (sym h))
equal_right (inf s) (inf true) h = refl
equal_right (inf s) (inf false) h = refl
equal_right (inf s) (fin true m e) h = rw (itself (m * up e * down e))
equal_right (inf s) (fin false m e) h = rw (itself (m * up e * down e))
equal_right (fin s n d) nan h = absurd (true≢false (sym h))
equal_right (fin s n d) (inf true) h = refl
equal_right (fin s n d) (inf false) h = refl
equal_right (fin s n d) (fin true m e) h = rw (itself (m * up e * down e))
equal_right (fin s n d) (fin false m e) h = rw (itself (m * up e * down e))

at_itself : (x : Float) → eq x x ≡ true → le x x ≡ true
unfolding le
at_itself x h = rw h (or_true (lt x x))

-- ---- an axis at its ends

-- an axis of an accepted grid whose first and last line stand apart
pub record Apart (a : Axis) : Type 0 where
  pub count : Counted a.count
  pub start : finite a.start ≡ true
  pub step : finite a.step ≡ true
  pub above : lt (bits 0) a.step ≡ true
  pub apart : lt a.start (last_of a) ≡ true

module _ (a : Axis) (h : Apart a) where
  in-rule-count : count_in_rule a.count ≡ true
  in-rule-count = rw (le-leb 2 a.count h.count.two, le-leb a.count 64 h.count.most)

  pub within_first : within_of a a.start ≡ true
  unfolding within_of
  within_first = rw (in-rule-count, at_itself a.start (equal_left a.start (last_of a) h.apart), below_is_at_most a.start (last_of a) h.apart)

  pub within-last : within_of a (last_of a) ≡ true
  unfolding within_of
  within-last = rw (in-rule-count, below_is_at_most a.start (last_of a) h.apart, at_itself (last_of a) (equal_right a.start (last_of a) h.apart))

  far-there : far_of a.count ≡ as_number (suc (a.count - 2))
  far-there = ap as_number (next a.count h.count.two)
    where
      next : (n : ℕ) → 2 ≤ n → n - 1 ≡ suc (n - 2)
      next n two = omega arith

  few : a.count - 2 < 63
  few = let m = h.count.most in omega arith

  pub first-spacings : spacings_of a a.start ≡ bits 0
  unfolding spacings_of quotient_of
  first-spacings =
      rw (h.apart, itself_less_itself a.start h.start, zero_over a.step h.step h.above, far-there, after_none (a.count - 2) few)

  pub first_cell : cell_of a.count (bits 0) ≡ 0
  unfolding cell_of to_unsigned of_bits
  first_cell = rw (le-ltb (a.count - 2) 0 (omega arith))

  pub last-spacings : spacings_of a (last_of a) ≡ far_of a.count
  unfolding spacings_of
  last-spacings = rw (not_below_itself (last_of a))

  pub last-cell : cell_of a.count (far_of a.count) ≡ a.count - 2
  unfolding cell_of
  last-cell =
      rw (whole_of (a.count - 1) (let m = h.count.most in omega arith), lt-ltb (a.count - 2) (a.count - 1) (let t = h.count.two in omega arith))

  pub last-share : share_of (far_of a.count) (a.count - 2) ≡ one
  last-share = rw far-there (one_apart (a.count - 2) few)

pub first_share : share_of (bits 0) 0 ≡ bits 0
unfolding of_int round size units odd of_bits add sub sum neg
first_share = refl

-- ---- the weights at a corner

abbrev weights : Float → Float → Float → Float → Weights
weights sw se nw ne = record { sw = sw; se = se; nw = nw; ne = ne }

weights_sw : weights_of (bits 0) (bits 0) ≡ weights one (bits 0) (bits 0) (bits 0)
unfolding round size units odd of_bits add sub sum neg mul
weights_sw = refl

weights_se : weights_of (bits 0) one ≡ weights (bits 0) one (bits 0) (bits 0)
unfolding round size units odd of_bits add sub sum neg mul
weights_se = refl

weights_nw : weights_of one (bits 0) ≡ weights (bits 0) (bits 0) one (bits 0)
unfolding round size units odd of_bits add sub sum neg mul
weights_nw = refl

weights-ne : weights_of one one ≡ weights (bits 0) (bits 0) (bits 0) one
unfolding round size units odd of_bits add sub sum neg mul
weights-ne = refl

-- ---- a cell's node

pub record HeldNode (v : Node) : Type 0 where
  pub east : Held v.east
  pub north : Held v.north
  pub up : Held v.up

-- whether all four have a minus sign
abbrev all_minus : Float → Float → Float → Float → Bool
all_minus sw se nw ne = sign_of sw && sign_of se && sign_of nw && sign_of ne

-- a node's velocity as a corner gives it: its own numbers, but that a zero is -0 just where all four
-- nodes of the cell have a minus sign there
abbrev pub corner_node_of : Node → Node → Node → Node → Node → Node
corner_node_of v sw se nw ne =
    record {
      east = corner_of v.east (all_minus sw.east se.east nw.east ne.east);
      north = corner_of v.north (all_minus sw.north se.north nw.north ne.north);
      up = corner_of v.up (all_minus sw.up se.up nw.up ne.up);
    }

mix_sw : (sw se nw ne : Float) → Held sw → Held se → Held nw → Held ne → mix_of (weights one (bits 0) (bits 0) (bits 0)) sw se nw ne ≡ corner_of sw (all_minus sw se nw ne)
mix_sw sw se nw ne a b c d = rw (once sw a, none se b, none nw c, none ne d) (first_stays sw a (sign_of se) (sign_of nw) (sign_of ne))

mix_se : (sw se nw ne : Float) → Held sw → Held se → Held nw → Held ne → mix_of (weights (bits 0) one (bits 0) (bits 0)) sw se nw ne ≡ corner_of se (all_minus sw se nw ne)
mix_se sw se nw ne a b c d = rw (none sw a, once se b, none nw c, none ne d) (second_stays se b (sign_of sw) (sign_of nw) (sign_of ne))

mix_nw : (sw se nw ne : Float) → Held sw → Held se → Held nw → Held ne → mix_of (weights (bits 0) (bits 0) one (bits 0)) sw se nw ne ≡ corner_of nw (all_minus sw se nw ne)
mix_nw sw se nw ne a b c d = rw (none sw a, none se b, once nw c, none ne d) (third_stays nw c (sign_of sw) (sign_of se) (sign_of ne))

mix_ne : (sw se nw ne : Float) → Held sw → Held se → Held nw → Held ne → mix_of (weights (bits 0) (bits 0) (bits 0) one) sw se nw ne ≡ corner_of ne (all_minus sw se nw ne)
mix_ne sw se nw ne a b c d = rw (none sw a, none se b, none nw c, once ne d) (fourth_stays ne d (sign_of sw) (sign_of se) (sign_of nw))

module _ (sw se nw ne : Node) (a : HeldNode sw) (b : HeldNode se) (c : HeldNode nw) (d : HeldNode ne) where
  at-sw : mixed_of (weights_of (bits 0) (bits 0)) sw se nw ne ≡ corner_node_of sw sw se nw ne
  unfolding mixed_of
  at-sw =
      ap (λ (w : Weights). mixed_of w sw se nw ne) weights_sw
      ∙ rw (mix_sw sw.east se.east nw.east ne.east a.east b.east c.east d.east, mix_sw sw.north se.north nw.north ne.north a.north b.north c.north d.north, mix_sw sw.up se.up nw.up ne.up a.up b.up c.up d.up)

  at-se : mixed_of (weights_of (bits 0) one) sw se nw ne ≡ corner_node_of se sw se nw ne
  unfolding mixed_of
  at-se =
      ap (λ (w : Weights). mixed_of w sw se nw ne) weights_se
      ∙ rw (mix_se sw.east se.east nw.east ne.east a.east b.east c.east d.east, mix_se sw.north se.north nw.north ne.north a.north b.north c.north d.north, mix_se sw.up se.up nw.up ne.up a.up b.up c.up d.up)

  at-nw : mixed_of (weights_of one (bits 0)) sw se nw ne ≡ corner_node_of nw sw se nw ne
  unfolding mixed_of
  at-nw =
      ap (λ (w : Weights). mixed_of w sw se nw ne) weights_nw
      ∙ rw (mix_nw sw.east se.east nw.east ne.east a.east b.east c.east d.east, mix_nw sw.north se.north nw.north ne.north a.north b.north c.north d.north, mix_nw sw.up se.up nw.up ne.up a.up b.up c.up d.up)

  at-ne : mixed_of (weights_of one one) sw se nw ne ≡ corner_node_of ne sw se nw ne
  unfolding mixed_of
  at-ne =
      ap (λ (w : Weights). mixed_of w sw se nw ne) weights-ne
      ∙ rw (mix_ne sw.east se.east nw.east ne.east a.east b.east c.east d.east, mix_ne sw.north se.north nw.north ne.north a.north b.north c.north d.north, mix_ne sw.up se.up nw.up ne.up a.up b.up c.up d.up)

-- ---- an accepted grid

number-held : (s : List ℕ) → InRule s → (k at : ℕ) → k < numbers_of s → at ≡ 8 + 8 * k → Held (number_at s at)
unfolding number_at
number-held s r k at l e = record { holds = of_bits-fits binary64 (word64 s at); whole = ap (λ (n : ℕ). finite (number_at s n)) e ∙ r.numbers k l }

pub node_held : (s : List ℕ) → LaidOut s → InRule s → (i j : ℕ) → i < row_count_of s → j < column_count_of s → HeldNode (node_of s (column_count_of s) i j)
node_held s l r i j hi hj =
    let w = node_within (row_count_of s) (column_count_of s) i j hi hj in
    let long = l.long in
    record {
      east = number-held s r (4 + 3 * (i * column_count_of s + j)) (40 + 24 * (i * column_count_of s + j)) (omega (arith, w, long)) (omega arith);
      north = number-held s r (5 + 3 * (i * column_count_of s + j)) (40 + 24 * (i * column_count_of s + j) + 8) (omega (arith, w, long)) (omega arith);
      up = number-held s r (6 + 3 * (i * column_count_of s + j)) (40 + 24 * (i * column_count_of s + j) + 16) (omega (arith, w, long)) (omega arith);
    }

-- the four nodes of the cell (i, j), and the corner's own one among them
abbrev pub corner_of_cell : List ℕ → ℕ → ℕ → ℕ → ℕ → Node
corner_of_cell s i j up east =
    corner_node_of (node_of s (column_count_of s) (i + up) (j + east))
    (node_of s (column_count_of s) i j)
    (node_of s (column_count_of s) i (j + 1))
    (node_of s (column_count_of s) (i + 1) j)
    (node_of s (column_count_of s) (i + 1) (j + 1))

-- Of an accepted grid whose first and last row stand apart, and its first and last column, each
-- corner's place gives the corner's node.
module _ (s : List ℕ) (ok : check_grid_of s ≡ 0) (tall : lt (south_of s) (last_of (rows_of s)) ≡ true) (wide : lt (west_of s) (last_of (columns_of s)) ≡ true) where
  abbrev R : ℕ
  R = row_count_of s

  abbrev C : ℕ
  C = column_count_of s

  layout : LaidOut s
  layout = laid_out s ((accepted_exactly s).0 ok).0

  numbers : InRule s
  numbers = in_rule s ((accepted_exactly s).0 ok).1

  four : (k : ℕ) → k < 4 → k < numbers_of s
  four k h = let long = layout.long in omega (arith, long)

  rows_apart : Apart (rows_of s)
  rows_apart = record { count = layout.rows; start = numbers.numbers 0 (four 0 (omega arith)); step = numbers.numbers 2 (four 2 (omega arith)); above = numbers.latitude-spacing; apart = tall }

  columns-apart : Apart (columns_of s)
  columns-apart = record { count = layout.columns; start = numbers.numbers 1 (four 1 (omega arith)); step = numbers.numbers 3 (four 3 (omega arith)); above = numbers.longitude-spacing; apart = wide }

  node : (i j : ℕ) → i < R → j < C → HeldNode (node_of s C i j)
  node i j hi hj = node_held s layout numbers i j hi hj

  first-row : 0 + 1 < R
  first-row = let t = layout.rows.two in omega arith

  first-column : 0 + 1 < C
  first-column = let t = layout.columns.two in omega arith

  last_row : R - 2 + 1 < R
  last_row = let t = layout.rows.two in omega arith

  last-column : C - 2 + 1 < C
  last-column = let t = layout.columns.two in omega arith

  some-row : (i : ℕ) → i + 1 < R → i < R
  some-row i h = omega arith

  some-column : (j : ℕ) → j + 1 < C → j < C
  some-column j h = omega arith

  pub south-west-corner : found_of s (west_of s) (south_of s) ≡ present_of (corner_of_cell s 0 0 0 0)
  unfolding found_of found_in looked_up cell_velocity_of
  south-west-corner =
      rw (
        within_first (rows_of s) rows_apart,
        within_first (columns_of s) columns-apart,
        first-spacings (rows_of s) rows_apart,
        first-spacings (columns_of s) columns-apart,
        first_cell (rows_of s) rows_apart,
        first_cell (columns_of s) columns-apart,
        first_share,
      )
      (ap present_of (at-sw _ _ _ _ (node 0 0 (some-row 0 first-row) (some-column 0 first-column)) (node 0 1 (some-row 0 first-row) first-column) (node 1 0 first-row (some-column 0 first-column)) (node 1 1 first-row first-column)))

  pub south-east-corner : found_of s (last_of (columns_of s)) (south_of s) ≡ present_of (corner_of_cell s 0 (C - 2) 0 1)
  unfolding found_of found_in looked_up cell_velocity_of
  south-east-corner =
      rw (
        within_first (rows_of s) rows_apart,
        within-last (columns_of s) columns-apart,
        first-spacings (rows_of s) rows_apart,
        last-spacings (columns_of s) columns-apart,
        first_cell (rows_of s) rows_apart,
        last-cell (columns_of s) columns-apart,
        first_share,
        last-share (columns_of s) columns-apart,
      )
      (ap present_of (at-se _ _ _ _ (node 0 (C - 2) (some-row 0 first-row) (some-column (C - 2) last-column)) (node 0 (C - 2 + 1) (some-row 0 first-row) last-column) (node 1 (C - 2) first-row (some-column (C - 2) last-column)) (node 1 (C - 2 + 1) first-row last-column)))

  pub north-west-corner : found_of s (west_of s) (last_of (rows_of s)) ≡ present_of (corner_of_cell s (R - 2) 0 1 0)
  unfolding found_of found_in looked_up cell_velocity_of
  north-west-corner =
      rw (
        within-last (rows_of s) rows_apart,
        within_first (columns_of s) columns-apart,
        last-spacings (rows_of s) rows_apart,
        first-spacings (columns_of s) columns-apart,
        last-cell (rows_of s) rows_apart,
        first_cell (columns_of s) columns-apart,
        first_share,
        last-share (rows_of s) rows_apart,
      )
      (ap present_of (at-nw _ _ _ _ (node (R - 2) 0 (some-row (R - 2) last_row) (some-column 0 first-column)) (node (R - 2) 1 (some-row (R - 2) last_row) first-column) (node (R - 2 + 1) 0 last_row (some-column 0 first-column)) (node (R - 2 + 1) 1 last_row first-column)))

  pub north-east-corner : found_of s (last_of (columns_of s)) (last_of (rows_of s)) ≡ present_of (corner_of_cell s (R - 2) (C - 2) 1 1)
  unfolding found_of found_in looked_up cell_velocity_of
  north-east-corner =
      rw (
        within-last (rows_of s) rows_apart,
        within-last (columns_of s) columns-apart,
        last-spacings (rows_of s) rows_apart,
        last-spacings (columns_of s) columns-apart,
        last-cell (rows_of s) rows_apart,
        last-cell (columns_of s) columns-apart,
        last-share (rows_of s) rows_apart,
        last-share (columns_of s) columns-apart,
      )
      (ap present_of (at-ne _ _ _ _ (node (R - 2) (C - 2) (some-row (R - 2) last_row) (some-column (C - 2) last-column)) (node (R - 2) (C - 2 + 1) (some-row (R - 2) last_row) last-column) (node (R - 2 + 1) (C - 2) last_row (some-column (C - 2) last-column)) (node (R - 2 + 1) (C - 2 + 1) last_row last-column)))
