-- What a turn of sixteen tuples leaves where the step leaves the time alone, and how many count.
-- Assumes nothing.
use Prim.Native.Nat.{ℕ}
use mathlib.Core.Path.{◌≡◌, refl}
use mathlib.Core.Bool.{Bool, true, false, cond}
use mathlib.Core.List.{List}
use Rattle.std.specs.Prelude.{Option, Some, None}
use lib.Ieee.{Float, lt}
use Rattle.blocks.specs.Each.{Each, count_to}
use Rattle.arctan.specs.Arctan.{atan2_of}
use Rattle.hypot.specs.Hypot.{hypot_of}
use Rattle.tuple.specs.declared.Tuple.{Tuple}
use Rattle.tuple.specs.declared.Shifted.{Shifted}
use Rattle.tuple.specs.Columns.{row_of}
use Rattle.ellipsoid.specs.declared.Ellipsoid.{Ellipsoid}
use Rattle.cart.specs.declared.Inverse.{Inverse}
use Rattle.cart.specs.Step.{cart_fwd_of, cart_inv_of, counted_of, on_axis_of, off_axis_of}
use Rattle.geocart.specs.Geocart.{cartesian_of}
use Rattle.molodensky.specs.declared.Moped.{Moped}
use Rattle.molodensky.specs.declared.Offsets.{Offsets}
use Rattle.molodensky.specs.Step.{offsets_of, offset_by_of, common_of}
use Rattle.lists.specs.Sixteen.{row_at, put_block, turned_of, taken_of}
use Rattle.lists.proofs.Sixteen.{Columns, columns, timed-columns, turned, taken}
use Rattle.helmert.specs.Turns.{no_state, all_turns}
use Rattle.turns.specs.Turns.{plain_turns}

-- ---- the time stays

pub forward_time : (e : Ellipsoid) (v : Tuple) → (cart_fwd_of e v).tuple.t ≡ v.t
unfolding cartesian_of
forward_time e v = refl

either_time : (b : Bool) (p q : Shifted) {time : Float} → p.tuple.t ≡ time → q.tuple.t ≡ time → (cond b p q).tuple.t ≡ time
either_time true p q ep eq = ep
either_time false p q ep eq = eq

pub inverse_time : (k : Inverse) (v : Tuple) → (cart_inv_of k v).tuple.t ≡ v.t
unfolding cart_inv_of on_axis_of off_axis_of
inverse_time k v =
    let lam = atan2_of v.y v.x in
    let p = hypot_of v.x v.y in
    either_time (lt p k.cutoff) (on_axis_of k lam v) (counted_of (off_axis_of k lam p v)) refl refl

moved_time : (inverse : Bool) (v : Tuple) (by : Option Offsets) → (offset_by_of inverse v by).t ≡ v.t
moved_time true v (Some o) = refl
moved_time false v (Some o) = refl
moved_time true v None = refl
moved_time false v None = refl

pub common_time : (op : Moped) (inverse : Bool) (v : Tuple) → (common_of op inverse v).t ≡ v.t
common_time op inverse v = moved_time inverse v (offsets_of op v)

-- ---- a turn of sixteen, from the columns that it read

module _ (l : List Float) (i : ℕ) {x y z t : List Float}
    (r : Each x (λ (j : ℕ). (row_at l i j).x) × Each y (λ (j : ℕ). (row_at l i j).y) × Each z (λ (j : ℕ). (row_at l i j).z) × Each t (λ (j : ℕ). (row_at l i j).t)) where
  read : Columns (row_at l i) x y z t
  read = columns (row_at l i) r.0 r.1 r.2 r.3

  -- of a step that leaves the time alone, and says which tuples count
  pub plain-sixteen :
      (f : Tuple → Shifted) → ((v : Tuple) → (f v).tuple.t ≡ v.t) → {ox oy oz l' : List Float} {n : ℕ}
      → Each ox (λ (j : ℕ). (f (row_of x y z t j)).tuple.x) × Each oy (λ (j : ℕ). (f (row_of x y z t j)).tuple.y) × Each oz (λ (j : ℕ). (f (row_of x y z t j)).tuple.z)
      × (n ≡ count_to 16 (λ (j : ℕ). (f (row_of x y z t j)).counted))
      → l' ≡ put_block l i ox oy oz t
      → (l' ≡ turned_of (plain_turns f) no_state l i) × (n ≡ taken_of (plain_turns f) no_state l i)
  plain-sixteen f stays s el =
      (turned (plain_turns f) no_state l i read (timed-columns read (λ (v : Tuple). (f v).tuple) stays s.0 s.1 s.2) el, taken (plain_turns f) no_state l i read s.3)

  -- of one that counts every tuple
  pub all-sixteen :
      (f : Tuple → Tuple) → ((v : Tuple) → (f v).t ≡ v.t) → {ox oy oz l' : List Float}
      → Each ox (λ (j : ℕ). (f (row_of x y z t j)).x) × Each oy (λ (j : ℕ). (f (row_of x y z t j)).y) × Each oz (λ (j : ℕ). (f (row_of x y z t j)).z)
      → l' ≡ put_block l i ox oy oz t
      → l' ≡ turned_of (all_turns f) no_state l i
  all-sixteen f stays s el = turned (all_turns f) no_state l i read (timed-columns read f stays s.0 s.1 s.2) el

-- where every tuple counts, each of sixteen does
pub all_taken : (f : Tuple → Tuple) (l : List Float) (i : ℕ) → 16 ≡ taken_of (all_turns f) no_state l i
unfolding taken_of
all_taken f l i = refl
