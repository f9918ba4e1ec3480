-- What is true of the Helmert step, for callers to cite. Assumes nothing.
use mathlib.Core.Path.{◌≡◌, refl, sym, ap, ◌∙◌}
use mathlib.Core.Bool.{Bool, true, false, not, cond, ◌&&◌, true≢false}
use lib.Ieee.{Float, nan, inf, fin, add, sub, mul, div, neg, is_nan, eq, ne}
use Rattle.floats.specs.Binary64.{◌⊕◌, ◌⊖◌}
use Rattle.tuple.specs.declared.Tuple.{Tuple}
use Rattle.rotation.specs.declared.Vec3.{Vec3}
use Rattle.helmert.specs.declared.Shift.{Shift}
use Rattle.helmert.specs.declared.State.{State}
use Rattle.helmert.specs.declared.Mode.{Mode}
use Rattle.helmert.specs.Apply.{offset_of, deoffset_of, forward_of, inverse_of, apply_of, forward_about_of, inverse_about_of}
use Rattle.rotation.specs.Matrix.{Matrix}
use Rattle.helmert.specs.Modes.{nothing3, shifted_of, fixed_step_of, grown_of, rotation_at_of, scale_at_of, next_of, running_of, lost_of, own_epoch_step_of, time_varying_of, is_own_epoch_of, is_running_of, mode_of, step_of, counted_of}

-- ---- the step by its mode: what a loop that decides the mode beforehand leans on

pub step_in_running : (shift : Shift) (inv : Bool) (state : State) (v : Tuple) → is_running_of shift ≡ true → step_of shift inv state v ≡ running_of shift inv state v
unfolding step_of
step_in_running shift inv state v h = rw h

one_of_two : (a b : Bool) → (a && b) ≡ true → (a && not b) ≡ false
one_of_two true true h = refl
one_of_two true false h = absurd (true≢false (sym h))
one_of_two false b h = refl

pub step_in_own_epoch : (shift : Shift) (inv : Bool) (state : State) (v : Tuple) → is_own_epoch_of shift ≡ true
    → step_of shift inv state v ≡ record { state = state; tuple = own_epoch_step_of shift inv v }
unfolding step_of
step_in_own_epoch shift inv state v h = rw (one_of_two (time_varying_of shift) shift.own_epoch h, h)

-- a static or fixed sheet ignores the own-epoch flag
pub step_in_static_or_fixed : (shift : Shift) (inv : Bool) (state : State) (v : Tuple) → time_varying_of shift ≡ false
    → step_of shift inv state v ≡ record { state = state; tuple = fixed_step_of shift inv v }
unfolding step_of
step_in_static_or_fixed shift inv state v h = rw h

-- without a pivot: T, S and the matrix
pub fixed_without_pivot : (shift : Shift) (inv : Bool) (v : Tuple) → shift.pivoted ≡ false
    → let p = shift.parameters in fixed_step_of shift inv v ≡ shifted_of shift inv p.t p.r p.s v
unfolding fixed_step_of
fixed_without_pivot shift inv v none = rw none

-- ---- what a step carries

-- in static, fixed and own-epoch mode the state passes through unchanged
pub state_stays : (shift : Shift) (inv : Bool) (state : State) (v : Tuple) → is_running_of shift ≡ false → (step_of shift inv state v).state ≡ state
unfolding step_of
state_stays shift inv state v h = rw h

-- and a fix's result depends on that fix and the sheet alone
pub result_of_the_fix_alone : (shift : Shift) (inv : Bool) (state other : State) (v : Tuple) → is_running_of shift ≡ false
    → (step_of shift inv state v).tuple ≡ (step_of shift inv other v).tuple
unfolding step_of
result_of_the_fix_alone shift inv state other v h = rw h

-- in running mode the state after a fix is that before it at the fix's time
pub state_in_running : (shift : Shift) (inv : Bool) (state : State) (v : Tuple) → is_running_of shift ≡ true
    → (step_of shift inv state v).state ≡ next_of shift state v.t
unfolding step_of running_of
state_in_running shift inv state v h = rw h

-- at the last time itself nothing is carried on: what was worked out for it still serves
pub last_time_keeps_state : (shift : Shift) (state : State) (time : Float) → ne time state.last ≡ false → next_of shift state time ≡ state
unfolding next_of
last_time_keeps_state shift state time h = rw h

-- so in any mode, and both ways, fixes of one time lead from one state to one state
pub state_from_time : (shift : Shift) (inv back : Bool) (state : State) (v w : Tuple) → v.t ≡ w.t
    → (step_of shift inv state v).state ≡ (step_of shift back state w).state
unfolding step_of running_of
state_from_time shift inv back state v w h = go (is_running_of shift) refl
  where
    go : (b : Bool) → is_running_of shift ≡ b → (step_of shift inv state v).state ≡ (step_of shift back state w).state
    go true e = rw (e, h)
    go false e = rw e

-- equal states and equal tuples give equal results
pub same_in_same_out : (shift : Shift) (inv : Bool) (state other : State) (v w : Tuple) → state ≡ other → v ≡ w
    → step_of shift inv state v ≡ step_of shift inv other w
same_in_same_out shift inv state other v w hs hv = rw (hs, hv)

-- ---- time

applied_time_stays : (inv : Bool) (t : Vec3) (s : Float) (rotated : Bool) (m : Matrix) (v : Tuple) → (apply_of inv t s rotated m v).t ≡ v.t
unfolding forward_of inverse_of
applied_time_stays true t s rotated m v = refl
applied_time_stays false t s rotated m v = refl

fixed_time_stays : (shift : Shift) (inv : Bool) (v : Tuple) → (fixed_step_of shift inv v).t ≡ v.t
unfolding fixed_step_of forward_about_of inverse_about_of
fixed_time_stays shift inv v = go shift.pivoted refl inv
  where
    go : (b : Bool) → shift.pivoted ≡ b → (inv : Bool) → (fixed_step_of shift inv v).t ≡ v.t
    go true e true = rw e
    go true e false = rw e
    go false e inv = rw e (applied_time_stays inv _ _ _ _ v)

-- in every mode, both ways, a fix keeps its time
pub time_stays : (shift : Shift) (inv : Bool) (state : State) (v : Tuple) → (step_of shift inv state v).tuple.t ≡ v.t
unfolding step_of running_of own_epoch_step_of
time_stays shift inv state v = go (is_running_of shift) (is_own_epoch_of shift) refl refl
  where
    own : (lost : Bool) (w : Tuple) → w.t ≡ v.t → (cond lost (lost_of v) w).t ≡ v.t
    own true w e = refl
    own false w e = e

    go : (a b : Bool) → is_running_of shift ≡ a → is_own_epoch_of shift ≡ b → (step_of shift inv state v).tuple.t ≡ v.t
    go true b e f = rw e (applied_time_stays inv _ _ _ _ v)
    go false true e f = rw (e, f) (own (is_nan v.t) _ (applied_time_stays inv _ _ _ _ v))
    go false false e f = rw (e, f) (fixed_time_stays shift inv v)

-- ---- one NaN time spoils T for the rest

pub plus_nan : (x : Float) → x ⊕ nan ≡ nan
unfolding add
plus_nan nan = refl
plus_nan (inf s) = refl
plus_nan (fin s m e) = refl

pub nan_time_spoils : (shift : Shift) (state : State) → (next_of shift state nan).t ≡ nothing3
unfolding next_of grown_of ne eq sub add mul
nan_time_spoils shift state = rw (plus_nan state.t.x, plus_nan state.t.y, plus_nan state.t.z)

pub spoilt_stays_spoilt : (shift : Shift) (state : State) (time : Float) → state.t ≡ nothing3 → (next_of shift state time).t ≡ nothing3
unfolding next_of grown_of add
spoilt_stays_spoilt shift state time h = go (ne time state.last) refl
  where
    go : (b : Bool) → ne time state.last ≡ b → (next_of shift state time).t ≡ nothing3
    go true e = rw (e, h)
    go false e = rw (e, h)

-- ---- one tuple through a T of NaNs: three NaNs, whatever S and the matrix are

pub lost_by_T : (inv : Bool) (s : Float) (rotated : Bool) (m : Matrix) (v : Tuple) → apply_of inv nothing3 s rotated m v ≡ lost_of v
unfolding forward_of inverse_of offset_of deoffset_of add sub mul div neg
lost_by_T true s true m v = rw (plus_nan v.x)
lost_by_T true s false m v = rw (plus_nan v.x, plus_nan v.y, plus_nan v.z)
lost_by_T false s true m v = rw (plus_nan, plus_nan, plus_nan)
lost_by_T false s false m v = rw (plus_nan, plus_nan, plus_nan)

-- ---- own-epoch: a fix whose time is missing

-- one NaN is as good as another: a number that is not a number is `nan`
is_nan_lem : (x : Float) → is_nan x ≡ true → x ≡ nan
unfolding is_nan
is_nan_lem nan h = refl
is_nan_lem (inf s) h = absurd (true≢false (sym h))
is_nan_lem (fin s m e) h = absurd (true≢false (sym h))

-- T at its dt is spoilt, whatever the rates are
grown_by_nan : (v rate : Vec3) (epoch : Float) → grown_of v (nan ⊖ epoch) rate ≡ nothing3
unfolding grown_of sub add mul
grown_by_nan v rate epoch = rw (plus_nan v.x, plus_nan v.y, plus_nan v.z)

-- so the arithmetic agrees with the definition's own case: taken at the tuple's dt with no test for
-- a time, the step is the same
pub own_epoch_anyway : (shift : Shift) (inv : Bool) (v : Tuple)
    → let dt = v.t ⊖ shift.epoch in
    let p = shift.parameters in
    own_epoch_step_of shift inv v ≡ shifted_of shift inv (grown_of p.t dt p.dt) (rotation_at_of p dt) (scale_at_of p dt) v
unfolding own_epoch_step_of
own_epoch_anyway shift inv v = go (is_nan v.t) refl
  where
    shifted : Vec3 → Tuple
    shifted t =
        let dt = v.t ⊖ shift.epoch in
        let p = shift.parameters in
        shifted_of shift inv t (rotation_at_of p dt) (scale_at_of p dt) v

    t : Vec3
    t = grown_of shift.parameters.t (v.t ⊖ shift.epoch) shift.parameters.dt

    go : (b : Bool) → is_nan v.t ≡ b → cond b (lost_of v) (shifted t) ≡ shifted t
    go true h =
        let e : t ≡ nothing3 =
        ap (λ (time : Float). grown_of shift.parameters.t (time ⊖ shift.epoch) shift.parameters.dt) (is_nan_lem v.t h) ∙ grown_by_nan _ _ _ in
        sym (ap shifted e ∙ lost_by_T inv _ _ _ v)
    go false h = refl

-- the request's own words: three NaNs, the time kept, not counted, and the state passes through
pub missing_time_is_lost : (shift : Shift) (inv : Bool) (state : State) (v : Tuple) → is_own_epoch_of shift ≡ true → is_nan v.t ≡ true
    → (step_of shift inv state v ≡ record { state = state; tuple = lost_of v }) × (counted_of shift v ≡ false)
unfolding own_epoch_step_of counted_of
missing_time_is_lost shift inv state v own missing = (step_in_own_epoch shift inv state v own ∙ rw missing, rw (own, missing))

-- and a time that is given, an infinite one too, counts
pub given_time_counts : (shift : Shift) (v : Tuple) → is_nan v.t ≡ false → counted_of shift v ≡ true
unfolding counted_of
given_time_counts shift v given = by_flag (is_own_epoch_of shift)
  where
    by_flag : (own : Bool) → not (own && is_nan v.t) ≡ true
    by_flag true = rw given
    by_flag false = refl

-- in static, fixed and running mode every tuple counts, whatever its time
pub counts_but_in_own_epoch : (shift : Shift) (v : Tuple) → is_own_epoch_of shift ≡ false → counted_of shift v ≡ true
unfolding counted_of
counts_but_in_own_epoch shift v other = rw other

-- ---- the three modes in one

abbrev pub runs : Mode → Bool
runs Mode.Running = true
runs Mode.OwnEpoch = false
runs Mode.Still = false

abbrev pub owns : Mode → Bool
owns Mode.Running = false
owns Mode.OwnEpoch = true
owns Mode.Still = false

runs_as : (a b : Bool) → runs (cond a Mode.Running (cond b Mode.OwnEpoch Mode.Still)) ≡ a
runs_as true b = refl
runs_as false true = refl
runs_as false false = refl

owns_as : (a b : Bool) → a ≡ false → owns (cond a Mode.Running (cond b Mode.OwnEpoch Mode.Still)) ≡ b
owns_as true b h = absurd (true≢false h)
owns_as false true h = refl
owns_as false false h = refl

-- a mode tells of both tests
pub runs_told : (shift : Shift) {m : Mode} → mode_of shift ≡ m → is_running_of shift ≡ runs m
unfolding mode_of
runs_told shift e = sym (runs_as (is_running_of shift) (is_own_epoch_of shift)) ∙ ap runs e

pub owns_told : (shift : Shift) {m : Mode} → mode_of shift ≡ m → runs m ≡ false → is_own_epoch_of shift ≡ owns m
unfolding mode_of
owns_told shift e h = sym (owns_as (is_running_of shift) (is_own_epoch_of shift) (runs_told shift e ∙ h)) ∙ ap owns e
