-- What cart, permtide, Molodensky and deformation make of one tuple of a list, forward or inverse;
-- Helmert's turns stand in helmert/specs/Turns.antt. Each is made of the step's own definition;
-- nothing is computed here.
use Rattle.std.specs.Prelude.{ℕ, ◌+◌, ◌*◌, ◌/◌, Bool, cond, List, ltb, get_or, length, Float}
use Rattle.std.specs.Float.{nan}
use Rattle.tuple.specs.declared.Tuple.{Tuple}
use Rattle.tuple.specs.declared.Shifted.{Shifted}
use Rattle.ellipsoid.specs.Figure.{named_of}
use Rattle.cart.specs.declared.Cart.{Cart}
use Rattle.cart.specs.Step.{cart_fwd_of, cart_inv_of, inverse_figures_of}
use Rattle.permtide.specs.declared.Permtide.{Permtide}
use Rattle.permtide.specs.Step.{tide_of, fwd_of, inv_of}
use Rattle.molodensky.specs.declared.Molodensky.{Molodensky}
use Rattle.molodensky.specs.Step.{moped_of, common_of}
use Rattle.deformation.specs.declared.Deformation.{Deformation}
use Rattle.deformation.specs.declared.Motion.{Motion}
use Rattle.deformation.specs.declared.Velocity.{Velocity}
use Rattle.deformation.specs.Record.{directed_of}
use Rattle.deformation.specs.Step.{motion_of, common_of as deformation_of}
use Rattle.helmert.specs.declared.State.{State}
use Rattle.lists.specs.Run.{Turns}
use Rattle.helmert.specs.Turns.{all_turns}

-- a step that sees the tuple alone, and says whether it counts
abbrev pub plain_turns : (Tuple → Shifted) → Turns State
plain_turns f k state v = record { state = state; tuple = (f v).tuple; counted = (f v).counted }

-- ---- cart, permtide, Molodensky

abbrev pub cart_turns : Bool → Cart → Turns State
cart_turns inverse r =
    cond inverse (plain_turns (cart_inv_of (inverse_figures_of (named_of r.ellipsoid)))) (plain_turns (cart_fwd_of (named_of r.ellipsoid)))

abbrev pub permtide_turns : Bool → Permtide → Turns State
permtide_turns inverse r = cond inverse (all_turns (inv_of (tide_of r))) (all_turns (fwd_of (tide_of r)))

abbrev pub molodensky_turns : Bool → Molodensky → Turns State
molodensky_turns inverse r = all_turns (common_of (moped_of r) inverse)

-- ---- deformation: by the velocity and the mark that are lent for the fix

-- east, north, up of fix k: three numbers a tuple; NaNs where they are not lent
unfoldable pub velocity_at : List Float → ℕ → Velocity
velocity_at velocities k =
    cond (ltb k (length velocities / 3))
    (record { east = get_or velocities (3 * k) nan; north = get_or velocities (3 * k + 1) nan; up = get_or velocities (3 * k + 2) nan })
    (record { east = nan; north = nan; up = nan })

-- the mark of fix k: 1 present, 0 absent; absent where none is lent
abbrev pub mark_at : List ℕ → ℕ → ℕ
mark_at marks k = get_or marks k 0

-- a fix's velocity and mark are those at its index
abbrev pub moved_turns : Motion → Bool → List Float → List ℕ → Turns State
moved_turns op inverse velocities marks k state v =
    let shifted = deformation_of op inverse (velocity_at velocities k) (mark_at marks k) v in
    record { state = state; tuple = shifted.tuple; counted = shifted.counted }

-- by the sign that the record asks for: flag 2 turns the direction round
abbrev pub deformation_turns : Bool → Deformation → List Float → List ℕ → Turns State
deformation_turns inverse r velocities marks = moved_turns (motion_of r) (directed_of r inverse) velocities marks
