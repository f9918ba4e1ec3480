-- The two signs. A record's step is the Rust's step in the direction that flag 2 leaves or turns round
-- (`directed_step`); so with the flag forward gives what inverse gives without it, and inverse what
-- forward gives: tuple, time and count, for every tuple, mark, velocity and record, raw or not
-- (`comment_sign_is_the_other_direction`). Assumes nothing.
use mathlib.Core.Path.{◌≡◌, refl}
use Prim.Native.Nat.{ℕ, ◌+◌, ◌/◌, ◌%◌, ◌<◌}
use native.Mathlib.Omega.{arith}
use mathlib.Core.Bool.{Bool, true, false, not, cond}
use Rattle.tuple.specs.declared.Tuple.{Tuple}
use Rattle.deformation.specs.declared.Deformation.{Deformation}
use Rattle.deformation.specs.declared.Motion.{Motion}
use Rattle.deformation.specs.declared.Velocity.{Velocity}
use Rattle.deformation.specs.Record.{by_comment_of, directed_of}
use Rattle.deformation.specs.Step.{motion_of, common_of, record_step_of}

either : (flag : Bool) (op : Motion) (inverse : Bool) (v : Velocity) (mark : ℕ) (cart : Tuple)
    → cond flag (common_of op (not inverse) v mark cart) (common_of op inverse v mark cart)
    ≡ common_of op (cond flag (not inverse) inverse) v mark cart
either true op inverse v mark cart = refl
either false op inverse v mark cart = refl

pub directed_step : (r : Deformation) (inverse : Bool) (v : Velocity) (mark : ℕ) (cart : Tuple)
    → record_step_of r inverse v mark cart ≡ common_of (motion_of r) (directed_of r inverse) v mark cart
unfolding record_step_of directed_of
directed_step r inverse v mark cart = either (by_comment_of r) (motion_of r) inverse v mark cart

-- ---- the flag set

-- a record that has no flag 2, with it
pub flagged : Deformation → Deformation
flagged r = record { flags = r.flags + 2; ellipsoid = r.ellipsoid; dt = r.dt; epoch = r.epoch }

raw_stays : (n : ℕ) → (n + 2) % 2 ≡ n % 2
raw_stays n = omega arith

off : (n : ℕ) → n < 2 → n / 2 % 2 ≡ 0
off n h = omega arith

on : (n : ℕ) → n < 2 → (n + 2) / 2 % 2 ≡ 1
on n h = omega arith

pub motion_stays : (r : Deformation) → motion_of (flagged r) ≡ motion_of r
unfolding motion_of flagged
motion_stays r = rw (raw_stays r.flags)

pub plain_direction : (r : Deformation) (inverse : Bool) → r.flags < 2 → directed_of r inverse ≡ inverse
unfolding directed_of
plain_direction r inverse h = rw (off r.flags h)

pub flagged_direction : (r : Deformation) (inverse : Bool) → r.flags < 2 → directed_of (flagged r) inverse ≡ not inverse
unfolding directed_of flagged
flagged_direction r inverse h = rw (on r.flags h)

pub comment_sign_is_the_other_direction : (r : Deformation) → r.flags < 2 → (inverse : Bool) (v : Velocity) (mark : ℕ) (cart : Tuple)
    → record_step_of (flagged r) inverse v mark cart ≡ record_step_of r (not inverse) v mark cart
comment_sign_is_the_other_direction r h inverse v mark cart =
    rw (
      directed_step (flagged r) inverse v mark cart,
      directed_step r (not inverse) v mark cart,
      motion_stays r,
      flagged_direction r inverse h,
      plain_direction r (not inverse) h,
    )
