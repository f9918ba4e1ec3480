-- A block of points: when the rows of the tables give a point's angle, and the loop that tells so
-- of all. Assumes nothing.
use Prim.Native.Nat.{ℕ, zero, suc, ◌+◌, ◌-◌, ◌*◌, ◌/◌, ◌%◌, ◌<◌, ◌≤◌, min}
use native.Mathlib.Nat.{not-suc-le-zero, eq-or-lt_of_le, lt_of_lt_of_le, le-div_iff_mul-le, div-lt_iff_lt-mul, zero-lt-suc, lt_irrefl, mod-lt}
use native.Mathlib.Omega.{arith}
use mathlib.Core.Path.{◌≡◌, refl, ap, ◌∙◌, sym, subst}
use mathlib.Core.Logic.{◌⊎◌, inl, inr}
use mathlib.Core.Bool.{Bool, true, false, cond, not, ◌&&◌, true≢false}
use mathlib.Core.List.{List}
use lib.Dec.{T, leb, ltb}
use lib.ListN.{set, length}
use lib.Ieee.{Float, nan, inf, fin, binary64, fits, to_bits, is_nan, neg, lt, of_bits}
use lib.Ieee.Fits.{neg-fits}
use borrow.Author.Tests.{leb-true, leb-false, ltb-false, ne_eqb}
use Rattle.floats.specs.Binary64.{bits}
use Rattle.floats.specs.Number.{sign_of, abs_of}
use Rattle.floats.proofs.Values.{sign_is_the_highest_bit}
use Rattle.floats.proofs.Laws.{abs_is_not_negative}
use Rattle.blocks.specs.Each.{at, whole_at, UpTo, Each}
use Rattle.blocks.proofs.Laws.{none_filled, one_more, told}
use Rattle.arctan.specs.declared.Octant.{Octant}
use Rattle.arctan_block.specs.declared.Point.{Point}
use Rattle.arctan.specs.Table.{cell_at, octant_at, octants}
use Rattle.arctan.specs.Arctan.{small, moderate, cell_index_of, octant_index_of, cut_angle_of, quotient_angle_of, small_angle_of, within_of, signed, atan2_of}
use Rattle.arctan_block.specs.Block.{at_most, at_least, difference_of, larger_of, smaller_of, held_larger, held_smaller, quarters_of, octant_of, Usual, SizedPoint, SizedUpTo, quick_of, quick_at, mended_of, mended_at}
use Rattle.arctan.proofs.Parts.{usual-point}

abbrev most : Float
most = bits 0x6bb0_0000_0000_0000

abbrev least : Float
least = bits 0x1430_0000_0000_0000

-- ---- held within the moderate, no number is NaN

below_is_a_number : (v m : Float) → lt v m ≡ true → T (not (is_nan v))
unfolding lt is_nan
below_is_a_number nan m h = absurd (true≢false (sym h))
below_is_a_number (inf s) m h = tt
below_is_a_number (fin s n e) m h = tt

above_is_a_number : (v m : Float) → lt m v ≡ true → T (not (is_nan v))
unfolding lt is_nan
above_is_a_number nan nan h = absurd (true≢false (sym h))
above_is_a_number nan (inf s) h = absurd (true≢false (sym h))
above_is_a_number nan (fin s n e) h = absurd (true≢false (sym h))
above_is_a_number (inf s) m h = tt
above_is_a_number (fin s n e) m h = tt

most_is_a_number : T (not (is_nan most))
unfolding is_nan of_bits
most_is_a_number = tt

least_is_a_number : T (not (is_nan least))
unfolding is_nan of_bits
least_is_a_number = tt

pub at_most_is_a_number : (v : Float) → T (not (is_nan (at_most v most)))
at_most_is_a_number v = go (lt v most) refl
  where
    go : (t : Bool) → lt v most ≡ t → T (not (is_nan (cond t v most)))
    go true h = below_is_a_number v most h
    go false h = most_is_a_number

pub at_least_is_a_number : (v : Float) → T (not (is_nan (at_least v least)))
at_least_is_a_number v = go (lt least v) refl
  where
    go : (t : Bool) → lt least v ≡ t → T (not (is_nan (cond t v least)))
    go true h = above_is_a_number v least h
    go false h = least_is_a_number

-- ---- the bits of a held smaller magnitude lie below 2⁶³

least_has_no_sign : sign_of least ≡ false
unfolding sign_of of_bits
least_has_no_sign = refl

least_fits : T (fits binary64 least)
unfolding fits of_bits
least_fits = tt

both : (P : Float → Type 0) (t : Bool) (v w : Float) → P v → P w → P (cond t v w)
both P true v w p q = p
both P false v w p q = q

abs_fits : (x : Float) → T (fits binary64 x) → T (fits binary64 (abs_of x))
abs_fits x f = both (λ (v : Float). T (fits binary64 v)) (sign_of x) (neg x) x (neg-fits binary64 x f) f

module _ (y x : Float) where
  abbrev p : ℕ
  p = to_bits binary64 (held_larger y x)

  abbrev q : ℕ
  q = to_bits binary64 (held_smaller y x)

  no_sign : sign_of (held_smaller y x) ≡ false
  unfolding held_smaller
  no_sign =
      both (λ (v : Float). sign_of v ≡ false) (lt least (smaller_of y x)) (smaller_of y x) least
      (both (λ (v : Float). sign_of v ≡ false) (lt (abs_of x) (abs_of y)) (abs_of x) (abs_of y) (abs_is_not_negative x) (abs_is_not_negative y))
      least_has_no_sign

  smaller-fits : T (fits binary64 y) → T (fits binary64 x) → T (fits binary64 (held_smaller y x))
  unfolding held_smaller
  smaller-fits f g =
      both (λ (v : Float). T (fits binary64 v)) (lt least (smaller_of y x)) (smaller_of y x) least
      (both (λ (v : Float). T (fits binary64 v)) (lt (abs_of x) (abs_of y)) (abs_of x) (abs_of y) (abs_fits x g) (abs_fits y f))
      least_fits

  low_bits : T (fits binary64 y) → T (fits binary64 x) → q < 0x8000_0000_0000_0000
  unfolding held_smaller
  low_bits f g = leb-false 0x8000_0000_0000_0000 q (sign_is_the_highest_bit (held_smaller y x) (smaller-fits f g) (at_least_is_a_number (smaller_of y x)) ∙ no_sign)

-- the difference of two numbers of 64 bits, as it wraps
abbrev wraps : ℕ → ℕ → ℕ
wraps p q = (p + (0x1_0000_0000_0000_0000 - q)) % 0x1_0000_0000_0000_0000

pub wrapped-lt : (p q : ℕ) → wraps p q < 0x1_0000_0000_0000_0000
wrapped-lt p q = mod-lt _ (omega arith)

pub wrapped : (p q : ℕ) → p < 0x1_0000_0000_0000_0000 → q < 0x1_0000_0000_0000_0000 → wraps p q ≡ difference_of p q
wrapped p q h k = go (leb q p) refl
  where
    go : (t : Bool) → leb q p ≡ t → wraps p q ≡ cond t (p - q) (p + (0xffff_ffff_ffff_ffff - q) + 1)
    go true e = omega (arith, leb-true q p e)
    go false e = omega (arith, leb-false q p e)

-- fewer than 8192 quarters: counted from the larger down
counted-down : (p q : ℕ) → q < 0x8000_0000_0000_0000 → difference_of p q / 0x4_0000_0000_0000 < 256 → difference_of p q ≡ p - q
counted-down p q h k = go (leb q p) refl k
  where
    far : (0x8000_0000_0000_0000 ≤ p + (0xffff_ffff_ffff_ffff - q) + 1)
    far = omega arith

    beyond : 8192 ≤ (p + (0xffff_ffff_ffff_ffff - q) + 1) / 0x4_0000_0000_0000
    beyond = (le-div_iff_mul-le (zero-lt-suc 0x3_ffff_ffff_ffff)).1 far

    go : (t : Bool) → leb q p ≡ t → cond t (p - q) (p + (0xffff_ffff_ffff_ffff - q) + 1) / 0x4_0000_0000_0000 < 256 → cond t (p - q) (p + (0xffff_ffff_ffff_ffff - q) + 1) ≡ p - q
    go true e l = refl
    go false e l = let b = beyond in omega arith

-- ---- a point that is not odd

most_not_below_itself : lt most most ≡ false
unfolding lt of_bits
most_not_below_itself = refl

least_not_below_itself : lt least least ≡ false
unfolding lt of_bits
least_not_below_itself = refl

and_left : (a b : Bool) → (a && b) ≡ true → a ≡ true
and_left true b h = refl
and_left false b h = absurd (true≢false (sym h))

and_right : (a b : Bool) → (a && b) ≡ true → b ≡ true
and_right true b h = h
and_right false b h = absurd (true≢false (sym h))

kept_below : (v : Float) → lt (at_most v most) most ≡ true → lt v most ≡ true
kept_below v h = go (lt v most) refl h
  where
    go : (t : Bool) → lt v most ≡ t → lt (cond t v most) most ≡ true → lt v most ≡ true
    go true e l = e
    go false e l = absurd (true≢false (sym l ∙ most_not_below_itself))

kept_above : (v : Float) → lt least (at_least v least) ≡ true → lt least v ≡ true
kept_above v h = go (lt least v) refl h
  where
    go : (t : Bool) → lt least v ≡ t → lt least (cond t v least) ≡ true → lt least v ≡ true
    go true e l = e
    go false e l = absurd (true≢false (sym l ∙ least_not_below_itself))

odd-bound : (u : Bool) (d : ℕ) → d < 0x1_0000_0000_0000_0000 → cond u (d / 0x4_0000_0000_0000) 8192 ≤ 16384
odd-bound true d h = let b : d / 0x4_0000_0000_0000 < 16384 = (div-lt_iff_lt-mul (zero-lt-suc 0x3_ffff_ffff_ffff)).1 h in omega arith
odd-bound false d h = omega arith

not_odd : (u : Bool) (n : ℕ) → cond u n 8192 < 256 → (u ≡ true) × (n < 256)
not_odd true n h = (refl, h)
not_odd false n h = absurd (omega arith)

module _ (y x : Float) where
  usual-if-not-odd : T (fits binary64 y) → T (fits binary64 x) → cond (moderate (held_larger y x) (held_smaller y x)) (quarters_of y x) 8192 < 256 → Usual y x
  unfolding held_larger held_smaller quarters_of moderate cell_index_of
  usual-if-not-odd f g h =
      let n = not_odd (moderate (held_larger y x) (held_smaller y x)) (quarters_of y x) h in
      let below = kept_below (larger_of y x) (and_left (lt (held_larger y x) most) (lt least (held_smaller y x)) n.0) in
      let above = kept_above (smaller_of y x) (and_right (lt (held_larger y x) most) (lt least (held_smaller y x)) n.0) in
      let large : held_larger y x ≡ larger_of y x = ap (λ (t : Bool). cond t (larger_of y x) most) below in
      let less : held_smaller y x ≡ smaller_of y x = ap (λ (t : Bool). cond t (smaller_of y x) least) above in
      record {
        is-moderate = rw (below, above);
        larger-kept = large;
        smaller-kept = less;
        cell =
            ap (λ (d : ℕ). min (d / 0x4_0000_0000_0000) 16) (counted-down (to_bits binary64 (held_larger y x)) (to_bits binary64 (held_smaller y x)) (low_bits y x f g) n.1)
            ∙ ap (λ (v : Float). min ((to_bits binary64 v - to_bits binary64 (held_smaller y x)) / 0x4_0000_0000_0000) 16) large
            ∙ ap (λ (v : Float). min ((to_bits binary64 (larger_of y x) - to_bits binary64 v) / 0x4_0000_0000_0000) 16) less;
      }

-- what the code gives for a point is what is told of one
pub sized_point : (y x : Float) (p : Point) (d : ℕ) → T (fits binary64 y) → T (fits binary64 x) → d < 0x1_0000_0000_0000_0000
    → p.larger ≡ held_larger y x → p.smaller ≡ held_smaller y x → d ≡ difference_of (to_bits binary64 p.larger) (to_bits binary64 p.smaller) → p.quarters ≡ d / 0x4_0000_0000_0000
    → p.octant ≡ octant_of y x → p.odd ≡ cond (moderate p.larger p.smaller) p.quarters 8192
    → SizedPoint y x p
unfolding quarters_of
sized_point y x p d f g room large less difference quarters octant odd =
    let quarters-is : p.quarters ≡ quarters_of y x =
    quarters ∙ ap (λ (n : ℕ). n / 0x4_0000_0000_0000) difference
    ∙ ap (λ (v : Float). difference_of (to_bits binary64 v) (to_bits binary64 p.smaller) / 0x4_0000_0000_0000) large
    ∙ ap (λ (v : Float). difference_of (to_bits binary64 (held_larger y x)) (to_bits binary64 v) / 0x4_0000_0000_0000) less
    in
    let odd_is : p.odd ≡ cond (moderate (held_larger y x) (held_smaller y x)) (quarters_of y x) 8192 =
    odd ∙ ap (λ (v : Float). cond (moderate v p.smaller) p.quarters 8192) large
    ∙ ap (λ (v : Float). cond (moderate (held_larger y x) v) p.quarters 8192) less
    ∙ ap (λ (n : ℕ). cond (moderate (held_larger y x) (held_smaller y x)) n 8192) quarters-is
    in
    record {
      larger-is = large;
      smaller-is = less;
      quarters-is = quarters-is;
      octant-is = octant;
      bound =
          subst (λ (n : ℕ). n ≤ 16384) (sym (odd ∙ ap (λ (n : ℕ). cond (moderate p.larger p.smaller) n 8192) quarters))
          (odd-bound (moderate p.larger p.smaller) d room);
      usual = λ h. usual-if-not-odd y x f g (subst (λ (n : ℕ). n < 256) odd_is h);
    }

-- ---- the loop over a block: the start, a turn, the end

pub none_sized : {y x larger smaller : List Float} {quarters octants : List ℕ} → length larger ≡ 16 → length smaller ≡ 16 → length quarters ≡ 16 → length octants ≡ 16
    → SizedUpTo 0 y x larger smaller quarters octants 0
none_sized a b c d =
    record {
      larger-are = none_filled a;
      smaller-are = none_filled b;
      quarters-are = none_filled c;
      octants-are = none_filled d;
      bound = omega arith;
      usual = λ h j k. absurd (not-suc-le-zero k);
    }

pub one_more_sized : {y x larger smaller : List Float} {quarters octants : List ℕ} {i n : ℕ} {p : Point} → i < 16 → SizedPoint (at y i) (at x i) p
    → SizedUpTo i y x larger smaller quarters octants n
    → SizedUpTo (i + 1) y x (set larger i p.larger) (set smaller i p.smaller) (set quarters i p.quarters) (set octants i p.octant) (n + p.odd)
one_more_sized {y} {x} {larger} {smaller} {quarters} {octants} {i} {n} {p} room point before =
    record {
      larger-are = one_more room point.larger-is before.larger-are;
      smaller-are = one_more room point.smaller-is before.smaller-are;
      quarters-are = one_more room point.quarters-is before.quarters-are;
      octants-are = one_more room point.octant-is before.octants-are;
      bound = more before.bound point.bound;
      usual = λ h j k. at-or-before h j (eq-or-lt_of_le (up_to j k));
    }
  where
    more : n ≤ 16384 * i → p.odd ≤ 16384 → n + p.odd ≤ 16384 * (i + 1)
    more a b = omega arith

    up_to : (j : ℕ) → j < i + 1 → j ≤ i
    up_to j k = omega arith

    first : n + p.odd < 256 → n < 256
    first h = omega arith

    second : n + p.odd < 256 → p.odd < 256
    second h = omega arith

    at-or-before : n + p.odd < 256 → (j : ℕ) → (j ≡ i) ⊎ (j < i) → Usual (at y j) (at x j)
    at-or-before h j (inl e) = subst (λ (k : ℕ). Usual (at y k) (at x k)) (sym e) (point.usual (second h))
    at-or-before h j (inr k) = before.usual (first h) j k

pub all_sized : {y x larger smaller : List Float} {quarters octants : List ℕ} {i n : ℕ} → 16 ≤ i → i ≤ 16 → SizedUpTo i y x larger smaller quarters octants n
    → SizedUpTo 16 y x larger smaller quarters octants n
all_sized {y} {x} {larger} {smaller} {quarters} {octants} {i} {n} h g s = subst (λ (k : ℕ). SizedUpTo k y x larger smaller quarters octants n) (full h g) s
  where
    full : 16 ≤ i → i ≤ 16 → i ≡ 16
    full a b = omega arith

-- ---- a loop that fills two places at a turn

pub two_more : {l : List Float} {h : ℕ} {v w : Float} {f : ℕ → Float} → h < 8 → v ≡ f (2 * h) → w ≡ f (2 * h + 1) → UpTo (2 * h) l f → UpTo (2 * (h + 1)) (set (set l (2 * h) v) (2 * h + 1) w) f
two_more {l} {h} {v} {w} {f} room first second before =
    subst (λ (n : ℕ). UpTo n (set (set l (2 * h) v) (2 * h + 1) w) f) twice (one_more inside_too second (one_more inside first before))
  where
    twice : 2 * h + 1 + 1 ≡ 2 * (h + 1)
    twice = omega arith

    inside : 2 * h < 16
    inside = omega arith

    inside_too : 2 * h + 1 < 16
    inside_too = omega arith

-- ---- the angle by the rows of the tables

-- the bounds in the other order
octant_has_room : (left steep : Bool) → lt (octant_at (octant_index_of left steep)).low (octant_at (octant_index_of left steep)).high ≡ true
unfolding octant_index_of octant_at octants lt of_bits
octant_has_room true true = refl
octant_has_room true false = refl
octant_has_room false true = refl
octant_has_room false false = refl

bounds_in_either_order : (o : Octant) (v : Float) → lt o.low o.high ≡ true → at_least (at_most v o.high) o.low ≡ within_of o v
unfolding within_of
bounds_in_either_order o v h = go (lt v o.high)
  where
    go : (t : Bool) → at_least (cond t v o.high) o.low ≡ cond t (cond (lt o.low v) v o.low) o.high
    go true = refl
    go false = rw h

octant_of_four : (left steep : Bool) → octant_index_of left steep % 4 ≡ octant_index_of left steep
unfolding octant_index_of
octant_of_four true true = refl
octant_of_four true false = refl
octant_of_four false true = refl
octant_of_four false false = refl

reached : (n : ℕ) → min n 16 ≡ 16 → 1 * 16 ≤ n
reached n e = omega arith

-- only where the quarters reach 16 in the octant 0 are the rows not what `atan2` takes
not_small : (k n : ℕ) → n / 16 ≤ k → small k (min n 16) ≡ false
unfolding small
not_small zero n h = ne_eqb (min n 16) 16 (λ e. lt_irrefl 0 (lt_of_lt_of_le ((le-div_iff_mul-le (zero-lt-suc 15)).1 (reached n e)) h))
not_small (suc k) n h = rw (ne_eqb (suc k) 0 (λ e. omega arith))

quick_point : (y x : Float) → Usual y x → quarters_of y x / 16 ≤ octant_of y x
    → quick_of y (octant_at (octant_of y x % 4)) (cell_at (min (quarters_of y x) 16)) (held_larger y x) (held_smaller y x) ≡ atan2_of y x
unfolding quick_of octant_of quotient_angle_of
quick_point y x u h =
    let k = octant_index_of (lt x (bits 0)) (lt (abs_of x) (abs_of y)) in
    let i = cell_index_of (larger_of y x) (smaller_of y x) in
    let large = larger_of y x in
    let less = smaller_of y x in
    let quotient : cut_angle_of (octant_at k) (cell_at i) large less ≡ quotient_angle_of k large less =
    ap (λ (t : Bool). cond t (small_angle_of large less) (cut_angle_of (octant_at k) (cell_at i) large less))
    (sym (ap (λ (n : ℕ). small k n) (sym u.cell) ∙ not_small k (quarters_of y x) h))
    in
    ap (λ (n : ℕ). quick_of y (octant_at n) (cell_at (min (quarters_of y x) 16)) (held_larger y x) (held_smaller y x)) (octant_of_four (lt x (bits 0)) (lt (abs_of x) (abs_of y)))
    ∙ ap (λ (n : ℕ). quick_of y (octant_at k) (cell_at n) (held_larger y x) (held_smaller y x)) u.cell
    ∙ ap (λ (v : Float). quick_of y (octant_at k) (cell_at i) v (held_smaller y x)) u.larger-kept
    ∙ ap (λ (v : Float). quick_of y (octant_at k) (cell_at i) large v) u.smaller-kept
    ∙ ap (λ (v : Float). signed (lt y (bits 0)) v) (bounds_in_either_order (octant_at k) (cut_angle_of (octant_at k) (cell_at i) large less) (octant_has_room (lt x (bits 0)) (lt (abs_of x) (abs_of y))))
    ∙ ap (λ (v : Float). signed (lt y (bits 0)) (within_of (octant_at k) v)) quotient
    ∙ usual-point y x u.is-moderate

mended_point : (y x : Float) → Usual y x
    → mended_of y x (octant_of y x) (quarters_of y x) (quick_of y (octant_at (octant_of y x % 4)) (cell_at (min (quarters_of y x) 16)) (held_larger y x) (held_smaller y x)) ≡ atan2_of y x
mended_point y x u = go (ltb (octant_of y x) (quarters_of y x / 16)) refl
  where
    go : (t : Bool) → ltb (octant_of y x) (quarters_of y x / 16) ≡ t
        → cond t (atan2_of y x) (quick_of y (octant_at (octant_of y x % 4)) (cell_at (min (quarters_of y x) 16)) (held_larger y x) (held_smaller y x)) ≡ atan2_of y x
    go true h = refl
    go false h = quick_point y x u (ltb-false (octant_of y x) (quarters_of y x / 16) h)

-- a block that is not odd: the angles by the rows, mended, are those of `atan2`
pub block_angles : {y x larger smaller angles r : List Float} {quarters octants : List ℕ} {n : ℕ} → n < 256 → SizedUpTo 16 y x larger smaller quarters octants n
    → Each angles (λ (j : ℕ). quick_at y larger smaller quarters octants j) → Each r (λ (j : ℕ). mended_at y x quarters octants angles j)
    → Each r (λ (j : ℕ). atan2_of (at y j) (at x j))
block_angles {y} {x} {larger} {smaller} {angles} {r} {quarters} {octants} {n} h s a m = told same m
  where
    same : (j : ℕ) → j < 16 → mended_at y x quarters octants angles j ≡ atan2_of (at y j) (at x j)
    same j k =
        ap (λ (v : Float). mended_of (at y j) (at x j) (whole_at octants j) (whole_at quarters j) v) (a.held j k)
        ∙ ap (λ (v : ℕ). mended_of (at y j) (at x j) v (whole_at quarters j) (quick_of (at y j) (octant_at (v % 4)) (cell_at (min (whole_at quarters j) 16)) (at larger j) (at smaller j))) (s.octants-are.held j k)
        ∙ ap (λ (v : ℕ). mended_of (at y j) (at x j) (octant_of (at y j) (at x j)) v (quick_of (at y j) (octant_at (octant_of (at y j) (at x j) % 4)) (cell_at (min v 16)) (at larger j) (at smaller j))) (s.quarters-are.held j k)
        ∙ ap (λ (v : Float). mended_of (at y j) (at x j) (octant_of (at y j) (at x j)) (quarters_of (at y j) (at x j)) (quick_of (at y j) (octant_at (octant_of (at y j) (at x j) % 4)) (cell_at (min (quarters_of (at y j) (at x j)) 16)) v (at smaller j))) (s.larger-are.held j k)
        ∙ ap (λ (v : Float). mended_of (at y j) (at x j) (octant_of (at y j) (at x j)) (quarters_of (at y j) (at x j)) (quick_of (at y j) (octant_at (octant_of (at y j) (at x j) % 4)) (cell_at (min (quarters_of (at y j) (at x j)) 16)) (held_larger (at y j) (at x j)) v)) (s.smaller-are.held j k)
        ∙ mended_point (at y j) (at x j) (s.usual h j k)
