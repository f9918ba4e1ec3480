-- What a fresh kept run and a correction tell beside what they leave: how many tuples the step
-- counted, and how many met an angle out of reach of sine and cosine; a correction over its stretch.
use Rattle.std.specs.Prelude.{ℕ, ◌*◌, Bool, cond, List, eqb, take, drop, Float, Result}
use Rattle.tuple.specs.declared.Tuple.{Tuple}
use Rattle.helmert.specs.declared.Shift.{Shift}
use Rattle.helmert.specs.declared.State.{State}
use Rattle.helmert.specs.Modes.{start_of, counted_of}
use Rattle.helmert.specs.Turns.{helmert_turns}
use Rattle.lists.specs.Flat.{put_at}
use Rattle.lists.specs.Run.{count_of}
use Rattle.reach.specs.Met.{helmert_met}
use Rattle.tally.specs.declared.Tally.{Tally}
use Rattle.tally.specs.Tallies.{no_tally}
use Rattle.plans.specs.Passes.{Pass, meets, tally_of}
use Rattle.stretch.specs.Kept.{Kept, before_of}
use Rattle.stretch.specs.Track.{moved_of}
use Rattle.sheet.specs.declared.Refusal.{Refusal}
use Rattle.sheet.specs.Rules.{unless}
use Rattle.kept.specs.Entries.{Corrected, keep_refusal_of, shift_in, reversed_in, correct_of}
use Rattle.kept_reach.specs.declared.CorrectedReach.{CorrectedReach}

-- the sheet's one step
abbrev pub pass_in : Bool → List ℕ → Pass
pass_in inverse s = record { turns = helmert_turns (reversed_in inverse s) (shift_in s); met = helmert_met (shift_in s) }

-- a fresh run, over the list that it reads; zeros on refusal
unfoldable pub keep_tally_of : Bool → List ℕ → Kept → Tally
keep_tally_of inverse s old =
    cond (eqb (keep_refusal_of s old).number 0) (tally_of (pass_in inverse s) 0 (start_of (shift_in s)) old.list) no_tally

-- n fixes of a list from an index on
abbrev pub fixes_from : List Float → ℕ → ℕ → List Float
fixes_from list index n = take (4 * n) (drop (4 * index) list)

-- how many of n fixes from an index on, reached in a state, meet an angle out of reach
abbrev pub met_from : Bool → List ℕ → ℕ → State → List Float → ℕ
met_from inverse s index state fixes = count_of (meets (pass_in inverse s)) index state fixes

-- a correction, over its stretch: as many fixes as were redone, as the corrected list has them, from
-- the state before the index. A refused correction redoes none.
unfoldable pub stretch_met_of : Bool → List ℕ → Kept → ℕ → Tuple → ℕ
stretch_met_of inverse s old index fix =
    met_from inverse s index (before_of (shift_in s) old.track index)
    (fixes_from (put_at old.list (4 * index) fix) index (correct_of inverse s old index fix).answer.redone)

-- what a function hands out of a correction: how many fixes were redone and how many of them met
-- such an angle, or the refusal
abbrev pub reached : ℕ → ℕ → CorrectedReach
reached redone met = record { redone = redone; met = met }

abbrev pub told_in : Corrected → ℕ → Result CorrectedReach Refusal
told_in answer met = unless answer.refusal (reached answer.redone met)

-- ---- the pass over a list

-- Helmert's state, its count and its angles go by the times alone: a step that moves the state and
-- leaves the tuple tells the same two numbers, in both directions
abbrev pub time_pass : Shift → Pass
time_pass shift =
    record {
      turns = λ k state v. record { state = moved_of shift state v.t; tuple = v; counted = counted_of shift v };
      met = helmert_met shift;
    }
