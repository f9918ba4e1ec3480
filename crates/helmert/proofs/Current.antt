-- A running loop holds S and the matrix from one change of time to the next: what it holds is what
-- the definition takes anew at each tuple. Assumes nothing.
use mathlib.Core.Path.{◌≡◌, sym, ap, ◌∙◌}
use mathlib.Core.Bool.{Bool, true, false}
use lib.Ieee.{Float, ne}
use Rattle.floats.specs.Binary64.{◌⊖◌}
use Rattle.tuple.specs.declared.Tuple.{Tuple}
use Rattle.rotation.specs.Matrix.{Matrix, rotation_matrix_of}
use Rattle.helmert.specs.declared.Shift.{Shift}
use Rattle.helmert.specs.declared.State.{State}
use Rattle.helmert.specs.Apply.{forward_of, inverse_of, apply_of}
use Rattle.helmert.specs.Modes.{grown_of, rotation_at_of, scale_at_of, next_of, running_of, own_epoch_step_of}
use Rattle.helmert.proofs.Laws.{own_epoch_anyway}

-- S and the matrix at a time
abbrev pub scale_of : Shift → Float → Float
scale_of shift time = scale_at_of shift.parameters (time ⊖ shift.epoch)

abbrev pub matrix_of : Shift → Float → Matrix
matrix_of shift time = rotation_matrix_of (rotation_at_of shift.parameters (time ⊖ shift.epoch)) shift.exact shift.position_vector

-- a state, and S and the matrix at its last time
pub record Current (shift : Shift) (state : State) (s : Float) (m : Matrix) : Type 0 where
  pub scale : s ≡ scale_of shift state.last
  pub matrix : m ≡ matrix_of shift state.last

-- the same after a tuple's time was met
pub record Met (shift : Shift) (state : State) (time : Float) (now : State) (s : Float) (m : Matrix) : Type 0 where
  pub next : now ≡ next_of shift state time
  pub held : Current shift now s m

module _ (shift : Shift) (state : State) (time : Float) where
  stays : ne time state.last ≡ false → next_of shift state time ≡ state
  unfolding next_of
  stays h = rw h

  moves : ne time state.last ≡ true → (next_of shift state time).last ≡ time
  unfolding next_of
  moves h = rw h

  -- another time: all is taken anew
  pub met-anew : ne time state.last ≡ true → {now : State} {s : Float} {m : Matrix} → now ≡ next_of shift state time → s ≡ scale_of shift time → m ≡ matrix_of shift time
      → Met shift state time now s m
  met-anew h en es em =
      let last = sym (moves h) ∙ ap (λ (q : State). q.last) (sym en) in
      record { next = en; held = record { scale = es ∙ ap (scale_of shift) last; matrix = em ∙ ap (matrix_of shift) last } }

  -- the last time again: all stays
  pub met-again : ne time state.last ≡ false → {now : State} {s s₀ : Float} {m m₀ : Matrix} → now ≡ state → s ≡ s₀ → m ≡ m₀ → Current shift state s₀ m₀
      → Met shift state time now s m
  met-again h en es em held =
      let last = ap (λ (q : State). q.last) (sym en) in
      record { next = en ∙ sym (stays h); held = record { scale = es ∙ held.scale ∙ ap (scale_of shift) last; matrix = em ∙ held.matrix ∙ ap (matrix_of shift) last } }

  -- the same where no matrix is held
  pub scaled-anew : ne time state.last ≡ true → {now : State} {s : Float} → now ≡ next_of shift state time → s ≡ scale_of shift time
      → Met shift state time now s (matrix_of shift now.last)
  scaled-anew h en es = met-anew h en es (ap (matrix_of shift) (ap (λ (q : State). q.last) en ∙ moves h))

  pub scaled-again : ne time state.last ≡ false → {now : State} {s s₀ : Float} → now ≡ state → s ≡ s₀ → Current shift state s₀ (matrix_of shift state.last)
      → Met shift state time now s (matrix_of shift now.last)
  scaled-again h en es held = met-again h en es (ap (matrix_of shift) (ap (λ (q : State). q.last) en)) held

-- what is held makes the definition's turn
pub held_turn : (shift : Shift) (inverse : Bool) (state : State) (v : Tuple) {now : State} {w : Tuple} {s : Float} {m : Matrix} → Met shift state v.t now s m
    → w ≡ apply_of inverse now.t s shift.rotated m v → record { state = now; tuple = w } ≡ running_of shift inverse state v
unfolding running_of
held_turn shift inverse state v met e = rw (e, met.held.scale, met.held.matrix, met.next)

-- and so does any matrix where the shift is not rotated
pub unrotated_turn : (shift : Shift) (inverse : Bool) (state : State) (v : Tuple) → shift.rotated ≡ false → {now : State} {w : Tuple} {s : Float} (m : Matrix) {m' : Matrix}
    → Met shift state v.t now s m' → w ≡ apply_of inverse now.t s false m v → record { state = now; tuple = w } ≡ running_of shift inverse state v
unfolding running_of forward_of inverse_of
unrotated_turn shift true state v h m met e = rw (e, met.held.scale, met.next, h)
unrotated_turn shift false state v h m met e = rw (e, met.held.scale, met.next, h)

-- ---- own-epoch: the same at a tuple's own time, and with no test where it has none

pub own_epoch_turn : (shift : Shift) (inverse : Bool) (v : Tuple) {w : Tuple}
    → w ≡ apply_of inverse (grown_of shift.parameters.t (v.t ⊖ shift.epoch) shift.parameters.dt) (scale_of shift v.t) shift.rotated (matrix_of shift v.t) v
    → w ≡ own_epoch_step_of shift inverse v
own_epoch_turn shift inverse v e = e ∙ sym (own_epoch_anyway shift inverse v)
