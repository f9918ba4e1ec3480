-- Helmert's modes: what each pass tests is what the definition says of each tuple, and the angles
-- that "met" speaks of are those whose matrix the step uses. A running pass holds, from one change
-- of time to the next, whether R at the last time is out of reach (`Seen`). Assumes nothing.
use mathlib.Core.Path.{◌≡◌, refl, sym, ap, ◌∙◌}
use mathlib.Core.Bool.{Bool, true, false, not, cond, ◌&&◌, true≢false}
use lib.Ieee.{Float, is_nan, ne}
use Rattle.floats.specs.Binary64.{◌⊖◌}
use Rattle.tuple.specs.declared.Tuple.{Tuple}
use Rattle.helmert.specs.declared.Shift.{Shift}
use Rattle.helmert.specs.declared.State.{State}
use Rattle.rotation.specs.Matrix.{rotation_matrix_of}
use Rattle.helmert.specs.Apply.{apply_about_of}
use Rattle.helmert.specs.Modes.{rotation_at_of, scale_at_of, grown_of, next_of, shifted_of, running_of, fixed_step_of, own_epoch_step_of, step_of, time_varying_of, is_running_of, is_own_epoch_of}
use Rattle.reach.specs.Met.{rotation_out, rotation_used, matrix_out, own_out}

-- whether R at a time is out of reach
abbrev pub out_at : Shift → Float → Bool
out_at shift time = rotation_out (rotation_at_of shift.parameters (time ⊖ shift.epoch))

-- after a tuple's time was met: the state, and what is held for its last time
pub record Seen (shift : Shift) (state : State) (time : Float) (now : State) (met : Bool) : Type 0 where
  pub next : now ≡ next_of shift state time
  pub held : met ≡ out_at shift now.last

module _ (shift : Shift) (state : State) (time : Float) where
  stays : ne time state.last ≡ false → next_of shift state time ≡ state
  unfolding next_of
  stays h = rw h

  moves : ne time state.last ≡ true → (next_of shift state time).last ≡ time
  unfolding next_of
  moves h = rw h

  pub seen-anew : ne time state.last ≡ true → {now : State} {met : Bool} → now ≡ next_of shift state time → met ≡ out_at shift time → Seen shift state time now met
  seen-anew h en em = record { next = en; held = em ∙ ap (out_at shift) (sym (moves h) ∙ ap (λ (q : State). q.last) (sym en)) }

  pub seen-again : ne time state.last ≡ false → {now : State} {met met₀ : Bool} → now ≡ state → met ≡ met₀ → met₀ ≡ out_at shift state.last
      → Seen shift state time now met
  seen-again h en em held =
      record { next = en ∙ sym (stays h); held = em ∙ held ∙ ap (out_at shift) (ap (λ (q : State). q.last) (sym en)) }

-- two tests at once
pub both_told : (a b : Bool) → (a && b) ≡ true → (a ≡ true) × (b ≡ true)
both_told true true h = (refl, refl)
both_told true false h = absurd (true≢false (sym h))
both_told false b h = absurd (true≢false (sym h))

other_of_two : (a b : Bool) → (a && not b) ≡ true → (a && b) ≡ false
other_of_two true true h = absurd (true≢false (sym h))
other_of_two true false h = refl
other_of_two false b h = refl

one_of_two : (a b : Bool) → (a && b) ≡ true → (a && not b) ≡ false
one_of_two true true h = refl
one_of_two true false h = absurd (true≢false (sym h))
one_of_two false b h = refl

-- running: by the angles at the last time
pub running_met_at : (shift : Shift) (state : State) (v : Tuple) → is_running_of shift ≡ true → shift.rotated ≡ true → shift.exact ≡ true
    → out_at shift (next_of shift state v.t).last ≡ matrix_out shift state v
unfolding matrix_out
running_met_at shift state v running rotated exact =
    rw (exact, rotated, other_of_two (time_varying_of shift) shift.own_epoch running, running)

-- what is held is what the definition takes anew at each tuple
pub running_met : (shift : Shift) (state : State) (v : Tuple) → is_running_of shift ≡ true → shift.rotated ≡ true → shift.exact ≡ true → {now : State} {met : Bool}
    → Seen shift state v.t now met → met ≡ matrix_out shift state v
running_met shift state v running rotated exact seen =
    seen.held ∙ ap (λ (q : State). out_at shift q.last) seen.next ∙ running_met_at shift state v running rotated exact

-- own-epoch: by the fix's own time
pub own_met : (shift : Shift) (state : State) (v : Tuple) → is_own_epoch_of shift ≡ true → shift.rotated ≡ true → shift.exact ≡ true
    → own_out shift v.t ≡ matrix_out shift state v
unfolding matrix_out own_out
own_met shift state v own rotated exact =
    rw (exact, rotated, own, one_of_two (time_varying_of shift) shift.own_epoch own)

-- static and fixed: the sheet's R, the same for all
pub fixed_met : (shift : Shift) (state : State) (v : Tuple) → is_running_of shift ≡ false → is_own_epoch_of shift ≡ false → shift.rotated ≡ true → shift.exact ≡ true
    → matrix_out shift state v ≡ rotation_out shift.parameters.r
unfolding matrix_out
fixed_met shift state v running own rotated exact = rw (exact, rotated, own, running)

-- not exact, or not rotated: none
never : (b a : Bool) → (b && false && a) ≡ false
never true a = refl
never false a = refl

pub small_met : (shift : Shift) (state : State) (v : Tuple) → shift.exact ≡ false → matrix_out shift state v ≡ false
unfolding matrix_out
small_met shift state v h = rw h

pub unrotated_met : (shift : Shift) (state : State) (v : Tuple) → shift.rotated ≡ false → matrix_out shift state v ≡ false
unfolding matrix_out
unrotated_met shift state v h = rw h (never shift.exact _)

pub unused_met : (shift : Shift) (state : State) (v : Tuple) → (shift.exact && shift.rotated) ≡ false → matrix_out shift state v ≡ false
unused_met shift state v h = by shift.exact refl
  where
    by : (b : Bool) → shift.exact ≡ b → matrix_out shift state v ≡ false
    by true e = unrotated_met shift state v (rw e at h)
    by false e = small_met shift state v e

-- ---- the angles of which "met" speaks are those whose matrix the step uses

pub running_uses : (shift : Shift) (inverse : Bool) (state : State) (v : Tuple) → is_running_of shift ≡ true
    → let now = next_of shift state v.t in
    (step_of shift inverse state v).tuple ≡ shifted_of shift inverse now.t (rotation_used shift state v) (scale_at_of shift.parameters (now.last ⊖ shift.epoch)) v
unfolding step_of running_of
running_uses shift inverse state v h = rw h

pub fixed_uses : (shift : Shift) (inverse : Bool) (state : State) (v : Tuple) → is_running_of shift ≡ false → is_own_epoch_of shift ≡ false
    → let p = shift.parameters in
    (step_of shift inverse state v).tuple
    ≡ cond shift.pivoted
    (apply_about_of inverse shift.pivot p.t p.s shift.rotated (rotation_matrix_of (rotation_used shift state v) shift.exact shift.position_vector) v)
    (shifted_of shift inverse p.t (rotation_used shift state v) p.s v)
unfolding step_of fixed_step_of
fixed_uses shift inverse state v h o = rw (h, o)

pub own_epoch_uses : (shift : Shift) (inverse : Bool) (state : State) (v : Tuple) → is_own_epoch_of shift ≡ true → is_nan v.t ≡ false
    → let dt = v.t ⊖ shift.epoch in
    (step_of shift inverse state v).tuple
    ≡ shifted_of shift inverse (grown_of shift.parameters.t dt shift.parameters.dt) (rotation_used shift state v) (scale_at_of shift.parameters dt) v
unfolding step_of own_epoch_step_of
own_epoch_uses shift inverse state v o given =
    rw (one_of_two (time_varying_of shift) shift.own_epoch o, o, given)
