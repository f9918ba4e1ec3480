-- The track alone. A Helmert step moves its state by the times and by nothing else of a fix, so
-- what is written into a track is told by a column of times.
use Rattle.std.specs.Prelude.{ℕ, ◌+◌, Bool, true, false, cond, List, [], ◌∷◌, ◌++◌, length, drop, Float}
use Rattle.helmert.specs.declared.Shift.{Shift}
use Rattle.helmert.specs.declared.State.{State}
use Rattle.helmert.specs.Modes.{next_of, is_running_of}
use Rattle.lists.specs.Flat.{numbers_of, tuple_at}
use Rattle.stretch.specs.Same.{alike_of}
use Rattle.stretch.specs.Rows.{of_rows_of}
use Rattle.stretch.specs.Kept.{tracked_of}

-- the columns of a track have one row for each time
abbrev pub track_fits_of : List Float → List Float → List Float → List Float → List Float → Bool
track_fits_of times x y z t = of_rows_of (length times) (length x) (length y) (length z) (length t)

-- ---- a fresh run

-- the state after a fix of this time: in running mode it moves on, else it stays
unfoldable pub moved_of : Shift → State → Float → State
moved_of shift state time = cond (is_running_of shift) (next_of shift state time) state

-- the state after the last of the times
abbrev pub moved_by_of : Shift → State → List Float → State
moved_by_of shift state (t ∷ times) = moved_by_of shift (moved_of shift state t) times
moved_by_of shift state [] = state

-- the state after each, written as four numbers
abbrev pub tracks_of : Shift → State → List Float → List Float
tracks_of shift state (t ∷ times) = numbers_of (tracked_of (moved_of shift state t)) ++ tracks_of shift (moved_of shift state t) times
tracks_of shift state [] = []

-- ---- a correction

-- how many fixes were tracked anew, whether the carried state equalled the kept one after the last
-- of them, the state carried after it, and the track
pub record Retracked : Type 0 where
  pub count : ℕ
  pub met : Bool
  pub state : State
  pub track : List Float

abbrev pub retracked : ℕ → Bool → State → List Float → Retracked
retracked count met state track = record { count = count; met = met; state = state; track = track }

-- one fix, with what the rest gives
abbrev pub one_retracked : Bool → State → List Float → Retracked → Retracked
one_retracked true state track rest = retracked 1 true state (numbers_of (tracked_of state) ++ track)
one_retracked false state track rest = retracked (rest.count + 1) rest.met rest.state (numbers_of (tracked_of state) ++ rest.track)

-- a track written anew up to the first fix after which the carried state is the kept one, else to
-- the end
abbrev pub retrack_of : Shift → State → List Float → List Float → Retracked
retrack_of shift state (t ∷ times) track =
    one_retracked (alike_of (tracked_of (moved_of shift state t)) (tuple_at track 0)) (moved_of shift state t) (drop 4 track)
    (retrack_of shift (moved_of shift state t) times (drop 4 track))
retrack_of shift state [] track = retracked 0 false state track
