-- A chain: the steps of a sheet over a list, in order, inverse in reverse with each turned round.
-- What the caller lends for deformation, velocities and marks or a grid, is one record (plans,
-- specs/Lent.antt).
use Rattle.std.specs.Prelude.{ℕ, zero, suc, ◌-◌, Bool, true, false, not, cond, List, [], ◌∷◌, ◌++◌, eqb, length, replicate, Float}
use Rattle.helmert.specs.declared.State.{State}
use Rattle.molodensky.specs.Step.{moped_of}
use Rattle.deformation.specs.Record.{directed_of}
use Rattle.deformation.specs.Step.{motion_of}
use Rattle.helmert.specs.Modes.{prepare_of, start_of}
use Rattle.badekas.specs.Step.{shift_of}
use Rattle.bodies.specs.declared.Step.{Step}
use Rattle.bodies.specs.declared.Step.TheVariants.{Cart, Permtide, Deformation, Molodensky, Badekas, Helmert}
use Rattle.sheet.specs.declared.Entry.{Entry}
use Rattle.lists.specs.Run.{Turns, ran_of, count_of}
use Rattle.helmert.specs.Turns.{no_state, helmert_turns}
use Rattle.turns.specs.Turns.{cart_turns, permtide_turns, molodensky_turns}
use Rattle.reach.specs.Met.{Met, cart_met, permtide_met, molodensky_met, helmert_met}
use Rattle.tally.specs.declared.Tally.{Tally}
use Rattle.tally.specs.Tallies.{no_tally}
use Rattle.plans.specs.Lent.{Lent, lent_turns, lent_met}
use Rattle.plans.specs.Passes.{Pass, meets}

-- ---- one step over a list

-- what a step makes of one tuple, by its kind
abbrev pub turns_of : Bool → Lent → Step → Turns State
turns_of inverse lent (Cart r) = cart_turns inverse r
turns_of inverse lent (Permtide r) = permtide_turns inverse r
turns_of inverse lent (Deformation r) = lent_turns (motion_of r) (directed_of r inverse) lent
turns_of inverse lent (Molodensky r) = molodensky_turns inverse r
turns_of inverse lent (Helmert h) = helmert_turns inverse (prepare_of h)
turns_of inverse lent (Badekas r) = helmert_turns inverse (shift_of r)

-- whether a tuple meets an angle out of reach of sine and cosine in it
abbrev pub met_of : Bool → Lent → Step → Met State
met_of inverse lent (Cart r) = cart_met inverse
met_of inverse lent (Permtide r) = permtide_met
met_of inverse lent (Deformation r) = lent_met (motion_of r) lent
met_of inverse lent (Molodensky r) = molodensky_met (moped_of r)
met_of inverse lent (Helmert h) = helmert_met (prepare_of h)
met_of inverse lent (Badekas r) = helmert_met (shift_of r)

-- both together
abbrev pub pass_of : Bool → Lent → Step → Pass
pass_of inverse lent step = record { turns = turns_of inverse lent step; met = met_of inverse lent step }

-- the state that a step starts each list in
abbrev pub state_of : Step → State
state_of (Cart r) = no_state
state_of (Permtide r) = no_state
state_of (Deformation r) = no_state
state_of (Molodensky r) = no_state
state_of (Helmert h) = start_of (prepare_of h)
state_of (Badekas r) = start_of (shift_of r)

-- a step runs in the chain's direction, turned round where its inverted word is 1
abbrev pub reversed_of : Bool → Entry → Bool
reversed_of inverse e = cond (eqb e.inverted 1) (not inverse) inverse

-- the list after a step, how many tuples the step counted, and how many met an angle out of reach
unfoldable pub step_list_of : Bool → Lent → Entry → List Float → List Float
step_list_of inverse lent e l =
    ran_of (turns_of (reversed_of inverse e) lent e.step) 0 (state_of e.step) l

unfoldable pub tuples_counted_of : Bool → Lent → Entry → List Float → ℕ
tuples_counted_of inverse lent e l =
    count_of (turns_of (reversed_of inverse e) lent e.step) 0 (state_of e.step) l

unfoldable pub tuples_met_of : Bool → Lent → Entry → List Float → ℕ
tuples_met_of inverse lent e l =
    count_of (meets (pass_of (reversed_of inverse e) lent e.step)) 0 (state_of e.step) l

abbrev pub step_tally_of : Bool → Lent → Entry → List Float → Tally
step_tally_of inverse lent e l =
    record { count = tuples_counted_of inverse lent e l; met = tuples_met_of inverse lent e l }

-- ---- steps one after another

-- the list after some steps, and the tally of each in the sheet's order
pub record Run : Type 0 where
  pub list : List Float
  pub tallies : List Tally

-- forward: the first step first
unfoldable pub chain_forward_of : Lent → List Entry → List Float → Run
chain_forward_of lent [] l = record { list = l; tallies = [] }
chain_forward_of lent (e ∷ es) l =
    let later = chain_forward_of lent es (step_list_of false lent e l) in
    record { list = later.list; tallies = step_tally_of false lent e l ∷ later.tallies }

-- inverse: the last step first
unfoldable pub chain_inverse_of : Lent → List Entry → List Float → Run
chain_inverse_of lent [] l = record { list = l; tallies = [] }
chain_inverse_of lent (e ∷ es) l =
    let later = chain_inverse_of lent es l in
    record { list = step_list_of true lent e later.list; tallies = step_tally_of true lent e later.list ∷ later.tallies }

abbrev pub chain_of : Bool → Lent → List Entry → List Float → Run
chain_of inverse lent es l = cond inverse (chain_inverse_of lent es l) (chain_forward_of lent es l)

-- sixteen places: each step's tally, and zeros in the others
abbrev pub places_of : List Tally → List Tally
places_of tallies = tallies ++ replicate (16 - length tallies) no_tally

-- the first k entries from index i on
unfoldable pub entries_of : (ℕ → Entry) → ℕ → ℕ → List Entry
entries_of entry zero i = []
entries_of entry (suc k) i = entry i ∷ entries_of entry k (suc i)
