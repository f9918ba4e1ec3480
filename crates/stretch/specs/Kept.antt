-- The kept run: a list, its results and its track, shifted under one Helmert step; and the
-- correction of one fix.
use Rattle.std.specs.Prelude.{ℕ, zero, suc, ◌+◌, ◌-◌, ◌*◌, ◌/◌, ◌%◌, ◌≤◌, ◌<◌, ◌≡◌, ◌⊎◌, Bool, true, cond, ◌&&◌, List, ◌++◌, eqb, ltb, length, take, drop, Float}
use Rattle.tuple.specs.declared.Tuple.{Tuple}
use Rattle.helmert.specs.declared.Shift.{Shift}
use Rattle.helmert.specs.declared.State.{State}
use Rattle.helmert.specs.Modes.{start_of, next_of, is_running_of}
use Rattle.lists.specs.Flat.{four_of, tuple_at, put_at}
use Rattle.lists.specs.Run.{Turns, ran_of, track_of, state_after_of}
use Rattle.helmert.specs.Turns.{helmert_turns}
use Rattle.stretch.specs.Same.{alike_of}

-- ---- a run

-- the track after a fix: last time, T
abbrev pub tracked_of : State → Tuple
tracked_of state = four_of state.last state.t.x state.t.y state.t.z

-- the state that the track holds
abbrev pub held_of : Tuple → State
held_of v = record { last = v.x; t = record { x = v.y; y = v.z; z = v.t } }

-- what is kept: the list, its results, and four numbers of track a fix
pub record Kept : Type 0 where
  pub list : List Float
  pub results : List Float
  pub track : List Float

abbrev pub kept_of : List Float → List Float → List Float → Kept
kept_of list results track = record { list = list; results = results; track = track }

-- the fresh run of a list: the chain's own run, and the state after each fix
unfoldable pub fresh_of : Shift → Bool → List Float → Kept
fresh_of shift inverse list =
    kept_of list (ran_of (helmert_turns inverse shift) 0 (start_of shift) list) (track_of tracked_of (helmert_turns inverse shift) 0 (start_of shift) list)

-- the state alone, which is the same in both directions: in running mode it moves on to each fix's
-- time, else it stays
abbrev pub state_turns : Shift → Turns State
state_turns shift k state v = record { state = cond (is_running_of shift) (next_of shift state v.t) state; tuple = v; counted = true }

-- a list of whole tuples, and another as long
unfoldable pub as_long_of : ℕ → ℕ → Bool
as_long_of list other = eqb (list % 4) 0 && eqb other list

-- a list of whole tuples, with results and track as long as it
unfoldable pub fit_of : ℕ → ℕ → ℕ → Bool
fit_of list results track = eqb (list % 4) 0 && eqb results list && eqb track list

abbrev pub fitting : Kept → Bool
fitting old = fit_of (length old.list) (length old.results) (length old.track)

-- what a fresh run leaves; all three lists as they were where they do not fit together
unfoldable pub fresh_run_of : Shift → Bool → Kept → Kept
fresh_run_of shift inverse old = cond (fitting old) (fresh_of shift inverse old.list) old

-- ---- the stretch: the fixes that a correction redoes

-- whether the carried state equals the kept one after fix j, by the new track and the kept one,
-- both from the corrected fix on
unfoldable pub meets_of : List Float → List Float → ℕ → Bool
meets_of new kept j = alike_of (tuple_at new (4 * j)) (tuple_at kept (4 * j))

-- the length of the stretch, of k fixes from fix j on: up to the first fix after which the states
-- are equal, that fix too; else to the end
unfoldable pub stretch_from : (ℕ → Bool) → ℕ → ℕ → ℕ
stretch_from meets j zero = 0
stretch_from meets j (suc k) = cond (meets j) 1 (suc (stretch_from meets (suc j) k))

unfoldable pub stretch_of : List Float → List Float → ℕ
stretch_of new kept = stretch_from (meets_of new kept) 0 (length new / 4)

-- ---- the stretch in words

-- the state that the run from an index on, begun in a state, carries after fix j
abbrev pub carried_at : Turns State → ℕ → State → List Float → ℕ → State
carried_at f index state list j = state_after_of f index state (take (4 * (suc j - index)) (drop (4 * index) list))

-- the state that the track keeps after fix j
abbrev pub kept_at : List Float → ℕ → State
kept_at track j = held_of (tuple_at track (4 * j))

-- n fixes from an index on, of count: it ends with the first fix after which the carried state
-- equals the kept one, else with the last
pub record Stretch (carried kept : ℕ → State) (index count n : ℕ) : Type 0 where
  pub some : 0 < n
  pub within : index + n ≤ count
  pub apart : (j : ℕ) → index ≤ j → suc j < index + n → carried j ≡ kept j → ⊥
  pub ends : (carried (index + n - 1) ≡ kept (index + n - 1)) ⊎ (index + n ≡ count)

-- ---- a correction

-- a list with n numbers of another written into it from a place on
abbrev pub spliced_of : List Float → ℕ → List Float → ℕ → List Float
spliced_of old at new n = take at old ++ take n new ++ drop (at + n) old

-- what a correction leaves, and how many fixes it redid
pub record Redone : Type 0 where
  pub count : ℕ
  pub kept : Kept

abbrev pub redone_of : ℕ → Kept → Redone
redone_of count kept = record { count = count; kept = kept }

-- redoing from an index on, by any step and from any state: the run of what is left of the list,
-- written as far as the stretch goes
unfoldable pub redo_of : Turns State → State → Kept → ℕ → Redone
redo_of f state old index =
    let at = 4 * index in
    let results = ran_of f index state (drop at old.list) in
    let track = track_of tracked_of f index state (drop at old.list) in
    let n = stretch_of track (drop at old.track) in
    redone_of n (kept_of old.list (spliced_of old.results at results (4 * n)) (spliced_of old.track at track (4 * n)))

-- where redoing starts: in running mode from the track before the index, at index 0 from the
-- sheet's start; else from the sheet's T
unfoldable pub before_of : Shift → List Float → ℕ → State
before_of shift track zero = start_of shift
before_of shift track (suc k) = cond (is_running_of shift) (held_of (tuple_at track (4 * k))) (start_of shift)

-- the list with the new fix in it
abbrev pub put_fix : Kept → ℕ → Tuple → Kept
put_fix old index fix = kept_of (put_at old.list (4 * index) fix) old.results old.track

-- the correction, whatever the three lists held: the fix goes into the list, and the run is redone
-- from there
unfoldable pub corrected_of : Shift → Bool → Kept → ℕ → Tuple → Redone
corrected_of shift inverse old index fix =
    redo_of (helmert_turns inverse shift) (before_of shift old.track index) (put_fix old index fix) index

-- what a correction leaves, and how many fixes it redid; none, and all three lists as they were,
-- where they do not fit together or no fix stands at the index
unfoldable pub put_right_of : Shift → Bool → Kept → ℕ → Tuple → Redone
put_right_of shift inverse old index fix =
    cond (fitting old && ltb index (length old.list / 4)) (corrected_of shift inverse old index fix) (redone_of 0 old)

-- an index and the new fix
pub record Correction : Type 0 where
  pub index : ℕ
  pub fix : Tuple
