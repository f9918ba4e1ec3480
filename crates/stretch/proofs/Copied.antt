-- A column copied, number by number. Working definition, which no promise cites: `Copied`. Assumes
-- nothing.
use Prim.Native.Nat.{ℕ, ◌+◌, ◌≤◌, ◌<◌}
use native.Mathlib.Omega.{arith}
use native.Mathlib.Numerals.{add-one}
use mathlib.Core.Path.{◌≡◌, refl, ◌∙◌}
use mathlib.Core.List.{List}
use lib.ListN.{length, take, get_or, set, length-set}
use lib.Seq.{take_all, take-suc, take-suc-set}
use lib.Ieee.{Float}

-- two lists are equal before a place
pub record Copied (from : List Float) (i : ℕ) (to : List Float) : Type 0 where
  pub within : i ≤ length from
  pub long : length to ≡ length from
  pub are : take i to ≡ take i from

pub copied_start : (from to : List Float) → length to ≡ length from → Copied from 0 to
copied_start from to e = record { within = omega arith; long = e; are = refl }

module _ {from to : List Float} {i : ℕ} (now : Copied from i to) where
  pub copied_again : (d : Float) → i < length from → Copied from (i + 1) (set to i (get_or from i d))
  copied_again d h =
      let v = get_or from i d in
      let k : i < length to = rw now.long h in
      record {
        within = omega arith;
        long = length-set to i v ∙ now.long;
        are = rw (add-one i, take-suc-set to i v k, take-suc from i d h, now.are);
      }

  pub copied_end : length from ≤ i → to ≡ from
  copied_end h =
      let k : length to ≤ i = rw now.long h in
      rw (take_all i to k, take_all i from h) at now.are
