-- The parts that a block works out are those of the step, and the step is a sum with the offsets as
-- numbers. Assumes nothing.
use mathlib.Core.Path.{◌≡◌, refl, ap, ◌∙◌}
use mathlib.Core.Bool.{Bool, true, false, cond}
use lib.Ieee.{Float, nan, inf, fin, add, sub, neg}
use Rattle.floats.specs.Binary64.{◌⊕◌, ◌⊖◌, ◌⊗◌}
use Rattle.root.specs.Sqrt.{sqrt_of}
use Rattle.trig.specs.Trig.{sin_of, cos_of}
use Rattle.tuple.specs.declared.Tuple.{Tuple}
use Rattle.ellipsoid.specs.Figure.{two, w_of, radii_with, prime_vertical_of, meridian_of}
use Rattle.molodensky.specs.declared.Moped.{Moped}
use Rattle.molodensky.specs.declared.Place.{Place}
use Rattle.molodensky.specs.declared.Offsets.{Offsets}
use Rattle.std.specs.Prelude.{Option, Some, None, unwrap_or}
use Rattle.molodensky.specs.Step.{place_with, figures_at_of, abridged_with, full_offsets_of, offsets_of, offset_by_of, common_of}
use Rattle.molodensky_block.specs.Block.{shift_of}

-- a place, given its sines and cosines and the root of w
pub placed : (op : Moped) (lam phi : Float) {slam clam sphi cphi w q : Float} → slam ≡ sin_of lam → clam ≡ cos_of lam → sphi ≡ sin_of phi → cphi ≡ cos_of phi → w ≡ w_of op.ellps sphi → q ≡ sqrt_of w → place_with op slam clam sphi cphi (radii_with op.ellps (w_of op.ellps sphi) q) ≡ figures_at_of op lam phi
unfolding figures_at_of prime_vertical_of meridian_of
placed op lam phi sl cl sp cp ew eq = rw (eq, ew, sp, cp, sl, cl)

-- the offsets as numbers
pub unwrapped : (o : Option Offsets) {none : Float} → none ≡ nan → unwrap_or o (record { dlam = none; dphi = none; dh = none }) ≡ shift_of o
unwrapped (Some o) e = refl
unwrapped None e = rw e

first : (b : Bool) (x y : Option Offsets) → b ≡ true → x ≡ cond b x y
first b x y h = rw h

second : (b : Bool) (x y : Option Offsets) → b ≡ false → y ≡ cond b x y
second b x y h = rw h

pub full : (op : Moped) (v : Tuple) {p : Place} → op.abridged ≡ false → p ≡ figures_at_of op v.x v.y → shift_of (full_offsets_of op p v.z) ≡ shift_of (offsets_of op v)
unfolding offsets_of
full op v mode e = ap shift_of (ap (λ (q : Place). full_offsets_of op q v.z) e ∙ second op.abridged _ _ mode)

pub abridged : (op : Moped) (v : Tuple) {p : Place} {s : Float} → op.abridged ≡ true → p ≡ figures_at_of op v.x v.y → s ≡ sin_of (two ⊗ v.y) → shift_of (abridged_with op p s) ≡ shift_of (offsets_of op v)
unfolding offsets_of
abridged op v {s = s} mode e es =
    ap shift_of
    (ap (λ (q : Place). abridged_with op q s) e
    ∙ ap (abridged_with op (figures_at_of op v.x v.y)) es
    ∙ first op.abridged _ _ mode)

plus_nan : (x : Float) → x ⊕ nan ≡ nan
unfolding add
plus_nan nan = refl
plus_nan (inf s) = refl
plus_nan (fin s m e) = refl

minus_nan : (x : Float) → x ⊖ nan ≡ nan
unfolding sub neg
minus_nan x = plus_nan x

moved_to : (inverse : Bool) (v : Tuple) (o : Option Offsets)
    → record { x = cond inverse (v.x ⊖ (shift_of o).dlam) (v.x ⊕ (shift_of o).dlam); y = cond inverse (v.y ⊖ (shift_of o).dphi) (v.y ⊕ (shift_of o).dphi); z = cond inverse (v.z ⊖ (shift_of o).dh) (v.z ⊕ (shift_of o).dh); t = v.t } ≡ offset_by_of inverse v o
moved_to true v (Some o) = refl
moved_to false v (Some o) = refl
moved_to true v None = rw (minus_nan v.x, minus_nan v.y, minus_nan v.z)
moved_to false v None = rw (plus_nan v.x, plus_nan v.y, plus_nan v.z)

-- the same place at another time
abbrev timed : Tuple → Float → Tuple
timed v t = record { x = v.x; y = v.y; z = v.z; t = t }

-- the step adds the numbers, or subtracts them, and no offset looks at the time
pub moved_by : (op : Moped) (inverse : Bool) (v : Tuple) (t : Float)
    → record { x = cond inverse (v.x ⊖ (shift_of (offsets_of op v)).dlam) (v.x ⊕ (shift_of (offsets_of op v)).dlam); y = cond inverse (v.y ⊖ (shift_of (offsets_of op v)).dphi) (v.y ⊕ (shift_of (offsets_of op v)).dphi); z = cond inverse (v.z ⊖ (shift_of (offsets_of op v)).dh) (v.z ⊕ (shift_of (offsets_of op v)).dh); t = t }
    ≡ common_of op inverse (timed v t)
unfolding offsets_of
moved_by op inverse v t = moved_to inverse (timed v t) (offsets_of op v)
