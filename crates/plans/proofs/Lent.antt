-- With a grid no fix meets an angle out of reach of sine and cosine. `geographic`'s longitude and
-- latitude are NaN or at most π in magnitude, since each is an angle of two numbers or a pole's, and
-- a place with a NaN is outside the grid, so that such a fix is absent. Assumes nothing.
use Prim.Native.Nat.{ℕ, zero, suc}
use native.Mathlib.Nat.{zero-lt-suc}
use mathlib.Core.Path.{◌≡◌, refl, sym, ap, ◌∙◌, fun_ext}
use mathlib.Core.Bool.{Bool, true, false, cond, ◌&&◌, ◌||◌, true≢false}
use mathlib.Core.List.{List}
use lib.Dec.{T, eqb, lt→ltb}
use lib.IntN.{ℤ}
use lib.Ieee.{Float, nan, inf, fin, of_bits, is_nan, neg, lt, le, eq}
use lib.Ieee.Bits.{is_true}
use lib.Ieee.Positive.{positive, le_trans_positive}
use Rattle.floats.specs.Number.{sign_of}
use Rattle.trig.specs.Trig.{reach, out_of_reach}
use Rattle.arctan.specs.Table.{half_pi, pi}
use Rattle.arctan.specs.Arctan.{atan2_of}
use Rattle.arctan.specs.Cases.{Between}
use Rattle.arctan.proofs.Parts.{zero_is_below}
use Rattle.arctan.proofs.Laws.{odd_in_y, from_zero_to_half_pi_if_x_is_not_negative, from_half_pi_to_pi_if_x_is_negative, nan_exactly_if_a_part_is}
use Rattle.hypot.specs.Hypot.{hypot_of}
use Rattle.tuple.specs.declared.Tuple.{Tuple}
use Rattle.geocart.specs.Geocart.{pole_of, pole_height_of, bowring_of, bowring_height_of, cutoff, geographic_of}
use Rattle.deformation.specs.declared.Motion.{Motion}
use Rattle.helmert.specs.declared.State.{State}
use Rattle.helmert.specs.Turns.{number_of}
use Rattle.lists.specs.Run.{Turns, count_of}
use Rattle.reach.specs.Met.{meeting_of, place_out}
use Rattle.reach.proofs.Laws.{met_by_tuple, none_of}
use Rattle.grid.specs.Lookup.{found_of}
use Rattle.grid.proofs.Laws.{nan_is_outside}
use Rattle.plans.specs.Lent.{gridded_met}

-- ---- an angle that `geographic` answers

-- NaN, or within reach
abbrev Reached : Float → Type 0
Reached v = is_nan v ≡ false → out_of_reach v ≡ false

zero_at_most : (e : ℤ) (most : Float) → T (positive most) → le (fin false zero e) most ≡ true
unfolding le
zero_at_most e nan p = absurd p
zero_at_most e (inf s) p = absurd p
zero_at_most e (fin true m d) p = absurd p
zero_at_most e (fin false zero d) p = absurd p
zero_at_most e (fin false (suc k) d) p = rw (zero_is_below k e d)

no_infinity : (high : Float) → T (positive high) → le (inf false) high ≡ false
unfolding le lt eq
no_infinity nan p = absurd p
no_infinity (inf s) p = absurd p
no_infinity (fin true m d) p = absurd p
no_infinity (fin false zero d) p = absurd p
no_infinity (fin false (suc k) d) p = refl

-- at most a bound, and so at most any higher one
higher : (high most v : Float) → T (positive high) → T (positive most) → T (le high most) → le v high ≡ true → is_nan v ≡ false → sign_of v ≡ false → le v most ≡ true
unfolding is_nan sign_of
higher high most nan p q h b n s = absurd (true≢false n)
higher high most (inf true) p q h b n s = absurd (true≢false s)
higher high most (inf false) p q h b n s = absurd (true≢false (sym b ∙ no_infinity high p))
higher high most (fin true m e) p q h b n s = absurd (true≢false s)
higher high most (fin false zero e) p q h b n s = zero_at_most e most q
higher high most (fin false (suc k) e) p q h b n s =
    is_true (le (fin false (suc k) e) most) (le_trans_positive (fin false (suc k) e) high most (lt→ltb 0 (suc k) (zero-lt-suc k)) p q (rw b tt) h)

in_reach : (low high v : Float) → T (positive high) → T (positive reach) → T (le high reach) → Between low high v → out_of_reach v ≡ false
unfolding out_of_reach
in_reach low high v p q h b = rw (b.unsigned, higher high reach v p q h b.below b.number b.unsigned)

either_sign : (v : Float) → out_of_reach (neg v) ≡ out_of_reach v
unfolding out_of_reach neg sign_of
either_sign nan = refl
either_sign (inf true) = refl
either_sign (inf false) = refl
either_sign (fin true m e) = refl
either_sign (fin false m e) = refl

upper_half : (y x : Float) → is_nan y ≡ false → is_nan x ≡ false → sign_of y ≡ false → out_of_reach (atan2_of y x) ≡ false
unfolding le of_bits
upper_half y x p q s = by_side (sign_of x) refl
  where
    by_side : (t : Bool) → sign_of x ≡ t → out_of_reach (atan2_of y x) ≡ false
    by_side true t = in_reach _ pi _ tt tt tt (from_half_pi_to_pi_if_x_is_negative y x p q s t)
    by_side false t = in_reach _ half_pi _ tt tt tt (from_zero_to_half_pi_if_x_is_not_negative y x p q s t)

number_angle : (y x : Float) → is_nan y ≡ false → is_nan x ≡ false → out_of_reach (atan2_of y x) ≡ false
unfolding is_nan sign_of neg
number_angle nan x p q = absurd (true≢false p)
number_angle (inf false) x p q = upper_half (inf false) x refl q refl
number_angle (inf true) x p q = ap out_of_reach (odd_in_y (inf false) x) ∙ either_sign _ ∙ upper_half (inf false) x refl q refl
number_angle (fin false m e) x p q = upper_half (fin false m e) x refl q refl
number_angle (fin true m e) x p q = ap out_of_reach (odd_in_y (fin false m e) x) ∙ either_sign _ ∙ upper_half (fin false m e) x refl q refl

pub angle_reached : (y x : Float) → Reached (atan2_of y x)
angle_reached y x h = by-test (is_nan y) (is_nan x) refl refl (sym (nan_exactly_if_a_part_is y x) ∙ h)
  where
    by-test : (a b : Bool) → is_nan y ≡ a → is_nan x ≡ b → (is_nan y || is_nan x) ≡ false → out_of_reach (atan2_of y x) ≡ false
    by-test true b p q k = absurd (true≢false (rw p at k))
    by-test false true p q k = absurd (true≢false (rw (p, q) at k))
    by-test false false p q k = number_angle y x p q

pole_reached : (Z : Float) → Reached (pole_of Z)
unfolding pole_of is_nan out_of_reach sign_of neg le of_bits
pole_reached nan h = absurd (true≢false h)
pole_reached (inf true) h = refl
pole_reached (inf false) h = refl
pole_reached (fin true m e) h = refl
pole_reached (fin false m e) h = refl

-- ---- a place, and the grid

is_nan_lem : (v : Float) → is_nan v ≡ true → v ≡ nan
unfolding is_nan
is_nan_lem nan h = refl
is_nan_lem (inf s) h = absurd (true≢false (sym h))
is_nan_lem (fin s m e) h = absurd (true≢false (sym h))

and_no : (b : Bool) → (b && false) ≡ false
and_no true = refl
and_no false = refl

module _ (s : List ℕ) (lam phi : Float) (h : Reached lam) (k : Reached phi) where
  place-meets-nothing : (eqb (found_of s lam phi).mark 1 && place_out lam phi) ≡ false
  place-meets-nothing = by-test (is_nan lam) (is_nan phi) refl refl
    where
      by-test : (a b : Bool) → is_nan lam ≡ a → is_nan phi ≡ b → (eqb (found_of s lam phi).mark 1 && place_out lam phi) ≡ false
      by-test true b p q = rw (is_nan_lem lam p, (nan_is_outside s phi).0)
      by-test false true p q = rw (is_nan_lem phi q, (nan_is_outside s lam).1)
      by-test false false p q = rw (h p, k q) (and_no (eqb (found_of s lam phi).mark 1))

pub gridded_meets_nothing : (op : Motion) (s : List ℕ) (v : Tuple) → gridded_met op s v ≡ false
unfolding geographic_of
gridded_meets_nothing op s v = by-test (lt (hypot_of v.x v.y) cutoff)
  where
    by-test : (b : Bool)
        → let p = hypot_of v.x v.y in
        let m = bowring_of op.ellps p v.z in
        let lam = atan2_of v.y v.x in
        let geo : Tuple =
        cond b (record { x = lam; y = pole_of v.z; z = pole_height_of op.ellps v.z; t = v.t })
        (record { x = lam; y = atan2_of m.num m.denom; z = bowring_height_of op.ellps p v.z m; t = v.t }) in
        (eqb (found_of s geo.x geo.y).mark 1 && place_out geo.x geo.y) ≡ false
    by-test true = place-meets-nothing s _ _ (angle_reached v.y v.x) (pole_reached v.z)
    by-test false = place-meets-nothing s _ _ (angle_reached v.y v.x) (angle_reached _ _)

-- so over any list the number is 0
pub none_met_with_a_grid : (op : Motion) (s : List ℕ) (f : Turns State) (k : ℕ) (state : State) (l : List Float)
    → count_of (meeting_of (λ k state v. gridded_met op s v) f) k state l ≡ 0
none_met_with_a_grid op s f k state l =
    met_by_tuple (gridded_met op s) f k state l ∙ ap (λ (p : Tuple → Bool). number_of p l) (fun_ext (gridded_meets_nothing op s)) ∙ none_of l
