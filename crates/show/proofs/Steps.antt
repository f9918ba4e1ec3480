-- The steps of a sheet, one after another. Assumes nothing.
use mathlib.Core.Path.{◌≡◌}
use Prim.Native.Nat.{ℕ, suc, ◌+◌}
use mathlib.Core.List.{List, [], ◌++◌}
use Rattle.show.specs.Show.{step_text, steps_text}

pub next_step : (s : List ℕ) (left n i : ℕ) → left ≡ suc n → steps_text s left i ≡ step_text s i ++ steps_text s n (i + 1)
unfolding steps_text
next_step s left n i l = rw l

pub no_step : (s : List ℕ) (left i : ℕ) → left ≡ 0 → steps_text s left i ≡ []
unfolding steps_text
no_step s left i l = rw l
