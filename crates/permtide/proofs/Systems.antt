-- The table of coefficients is read by systems as it is by codes. Assumes nothing.
use mathlib.Core.Path.{◌≡◌, refl, sym, ◌∙◌}
use Prim.Native.Nat.{ℕ}
use mathlib.Core.Bool.{Bool, true, false, cond}
use Rattle.std.specs.Prelude.{Result, Ok, Err}
use lib.Dec.{eqb}
use lib.Ieee.{Float, nan, neg}
use Rattle.floats.specs.Binary64.{◌⊕◌, bits}
use Rattle.ellipsoid.specs.Figure.{one}
use Rattle.permtide.specs.declared.System.{System}
use Rattle.permtide.specs.declared.System.TheVariants.{Mean, Zero, Free}
use Rattle.permtide.specs.declared.UnknownSystem.{UnknownSystem}
use Rattle.permtide.specs.Record.{from_of, coefficient_of}
use Rattle.permtide.specs.Systems.{coded_of, picked_of}

-- a number of a row, NaN where no system is named
abbrev pub number_in : Result System UnknownSystem → Float → Float → Float → Float
number_in (Ok system) x y z = picked_of system x y z
number_in (Err e) x y z = nan

by_code : (n : ℕ) (x y z : Float) → from_of n x y z ≡ number_in (coded_of n) x y z
by_code n x y z = by (eqb n 1) (eqb n 2) (eqb n 3)
  where
    by : (a b c : Bool) → cond a x (cond b y (cond c z nan)) ≡ number_in (cond a (Ok Mean) (cond b (Ok Zero) (cond c (Ok Free) (Err (record {}))))) x y z
    by true b c = refl
    by false true c = refl
    by false false true = refl
    by false false false = refl

-- the coefficient, each code read as a system
pub by_system :
    (to from : ℕ) (k : Float) {t f : Result System UnknownSystem}
    → t ≡ coded_of to → f ≡ coded_of from
    → number_in t (number_in f (bits 0) one (one ⊕ k)) (number_in f (neg one) (bits 0) k) (number_in f (neg (one ⊕ k)) (neg k) (bits 0))
    ≡ coefficient_of to from k
unfolding coefficient_of
by_system to from k t f =
    rw (t, f) (sym
    (by_code to (from_of from (bits 0) one (one ⊕ k)) (from_of from (neg one) (bits 0) k) (from_of from (neg (one ⊕ k)) (neg k) (bits 0))
    ∙ rw (by_code from (bits 0) one (one ⊕ k), by_code from (neg one) (bits 0) k, by_code from (neg (one ⊕ k)) (neg k) (bits 0))))

-- a row of NaNs has no number
pub no_number : (t : Result System UnknownSystem) → number_in t nan nan nan ≡ nan
no_number (Ok Mean) = refl
no_number (Ok Zero) = refl
no_number (Ok Free) = refl
no_number (Err e) = refl
