-- What the first of two phases hands to the second: T after each of sixteen rows, and the dt of the
-- last time there.
use Rattle.std.specs.Prelude.{ℕ, zero, suc, ◌+◌, List, Float}
use Rattle.floats.specs.Binary64.{◌⊖◌}
use Rattle.blocks.specs.Each.{at, UpTo}
use Rattle.helmert.specs.declared.Shift.{Shift}
use Rattle.helmert.specs.declared.State.{State}
use Rattle.helmert.specs.Modes.{next_of}

-- the state after n rows from row i on
abbrev pub states_of : Shift → State → List Float → ℕ → ℕ → State
states_of shift from times i zero = from
states_of shift from times i (suc n) = next_of shift (states_of shift from times i n) (at times (i + n))

-- T after each of the first n rows, and what lies between t_epoch and the last time there
pub record LanesTo (n : ℕ) (shift : Shift) (from : State) (times : List Float) (i : ℕ) (tx ty tz d : List Float) : Type 0 where
  pub x-held : UpTo n tx (λ (j : ℕ). (states_of shift from times i (suc j)).t.x)
  pub y-held : UpTo n ty (λ (j : ℕ). (states_of shift from times i (suc j)).t.y)
  pub z-held : UpTo n tz (λ (j : ℕ). (states_of shift from times i (suc j)).t.z)
  pub d-held : UpTo n d (λ (j : ℕ). (states_of shift from times i (suc j)).last ⊖ shift.epoch)

abbrev pub Lanes : Shift → State → List Float → ℕ → List Float → List Float → List Float → List Float → Type 0
Lanes shift from times i tx ty tz d = LanesTo 16 shift from times i tx ty tz d
