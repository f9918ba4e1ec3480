-- A step made ready makes of a tuple what the step makes, and starts a list in the step's state. So
-- all steps over a list in windows, each from its start, are the chain: the list, and each step's
-- tally. By induction over the steps. Assumes nothing.
use Prim.Native.Nat.{ℕ, zero, suc, ◌+◌, ◌-◌, ◌≤◌, ◌<◌}
use native.Mathlib.Omega.{arith}
use native.Mathlib.Nat.{zero-add}
use mathlib.Core.Path.{◌≡◌, refl, sym, ap, ◌∙◌}
use mathlib.Core.Bool.{Bool, true, false}
use mathlib.Core.List.{List, [], ◌∷◌, ◌++◌}
use borrow.Author.Tests.{lt-ltb}
use lib.ListN.{replicate}
use lib.Ieee.{Float}
use Rattle.lists.specs.Run.{ran_of, count_of}
use Rattle.bodies.specs.declared.Step.{Step}
use Rattle.bodies.specs.declared.Step.TheVariants.{Cart, Permtide, Deformation, Molodensky, Badekas, Helmert}
use Rattle.sheet.specs.Layout.{step_count_of, entry_at}
use Rattle.plans.specs.declared.Plan.{Plan}
use Rattle.plans.specs.declared.Standing.{Standing}
use Rattle.tally.specs.declared.Tally.{Tally}
use Rattle.tally.specs.Tallies.{no_tally}
use Rattle.tally.proofs.Laws.{tally_is, none_plus}
use Rattle.plans.specs.Passes.{tally_of}
use Rattle.plans.specs.Plans.{plan_of, plan_in, Ready, plan_turns_of, plan_met_of, plan_reach_of, plan_pass_of, plan_start_of}
use Rattle.plans.specs.Windows.{gone_of}
use Rattle.plans.proofs.Arrays.{sixteen_or_fewer}
use Rattle.sheet_plans.specs.Sheets.{plan_at}
use Rattle.windows.specs.Steps.{pass_in, passes_from, no_standing, starts_from, tallies_of, gone_over}
use Rattle.plans.specs.Lent.{Lent}
use Rattle.chain.specs.Chain.{Run, turns_of, met_of, pass_of, state_of, reversed_of, step_list_of, tuples_counted_of, tuples_met_of, step_tally_of, chain_forward_of, chain_inverse_of, chain_of, places_of, entries_of}
use Rattle.chain.proofs.Laws.{tallies_length, entries_length, forward_tallies_length}

-- ---- one step

module _ (lent : Lent) where
  pub plan_turns : (inverse : Bool) (step : Step) → plan_turns_of lent (plan_of inverse step) ≡ turns_of inverse lent step
  unfolding plan_of
  plan_turns true (Cart r) = refl
  plan_turns false (Cart r) = refl
  plan_turns inverse (Permtide r) = refl
  plan_turns inverse (Deformation r) = refl
  plan_turns inverse (Molodensky r) = refl
  plan_turns inverse (Helmert h) = refl
  plan_turns inverse (Badekas r) = refl

-- and tells of a tuple's angles what the step tells
pub plan_met : (inverse : Bool) (lent : Lent) (step : Step) → plan_met_of lent (plan_of inverse step) ≡ met_of inverse lent step
unfolding plan_of
plan_met true lent (Cart r) = refl
plan_met false lent (Cart r) = refl
plan_met inverse lent (Permtide r) = refl
plan_met inverse lent (Deformation r) = refl
plan_met inverse lent (Molodensky r) = refl
plan_met inverse lent (Helmert h) = refl
plan_met inverse lent (Badekas r) = refl

pub plan_start : (inverse : Bool) (step : Step) → plan_start_of (plan_of inverse step) ≡ state_of step
unfolding plan_of
plan_start true (Cart r) = refl
plan_start false (Cart r) = refl
plan_start inverse (Permtide r) = refl
plan_start inverse (Deformation r) = refl
plan_start inverse (Molodensky r) = refl
plan_start inverse (Helmert h) = refl
plan_start inverse (Badekas r) = refl

module _ (inverse : Bool) (lent : Lent) (s : List ℕ) (i : ℕ) (below : i < step_count_of s) where
  turns_at : plan_turns_of lent (plan_at inverse s i) ≡ turns_of (reversed_of inverse (entry_at s i)) lent (entry_at s i).step
  unfolding plan_at entry_at
  turns_at = rw (lt-ltb i (step_count_of s) below) (plan_turns lent _ _)

  pass-at : plan_pass_of lent (plan_at inverse s i) ≡ pass_of (reversed_of inverse (entry_at s i)) lent (entry_at s i).step
  unfolding plan_at entry_at
  pass-at = rw (lt-ltb i (step_count_of s) below) (rw (plan_turns lent _ _, plan_met _ lent _))

  start-at : plan_start_of (plan_at inverse s i) ≡ state_of (entry_at s i).step
  unfolding plan_at entry_at
  start-at = rw (lt-ltb i (step_count_of s) below) (plan_start _ _)

  module _ {plan : Plan} (e : plan ≡ plan_at inverse s i) (l : List Float) where
    pub list_at : ran_of (plan_turns_of lent plan) 0 (plan_start_of plan) l ≡ step_list_of inverse lent (entry_at s i) l
    unfolding step_list_of
    list_at = ap (λ (p : Plan). ran_of (plan_turns_of lent p) 0 (plan_start_of p) l) e ∙ rw (turns_at, start-at)

    pub tally-at : tally_of (plan_pass_of lent plan) 0 (plan_start_of plan) l ≡ step_tally_of inverse lent (entry_at s i) l
    unfolding tuples_counted_of tuples_met_of
    tally-at = ap (λ (p : Plan). tally_of (plan_pass_of lent p) 0 (plan_start_of p) l) e ∙ (λ j. tally_of (pass-at j) 0 (start-at j) l)

    pub tally-told : {tally : Tally} → tally.count ≡ count_of (plan_turns_of lent plan) 0 (plan_start_of plan) l
        → tally.met ≡ count_of (plan_reach_of lent plan) 0 (plan_start_of plan) l → tally ≡ step_tally_of inverse lent (entry_at s i) l
    tally-told ec em = tally_is {b = tally_of (plan_pass_of lent plan) 0 (plan_start_of plan) l} ec em ∙ tally-at

-- ---- a sheet of one step

module _ (inverse : Bool) (lent : Lent) (s : List ℕ) (below : 0 < step_count_of s) (l : List Float) where
  one : Bool → Run
  one inverted = record { list = step_list_of inverted lent (entry_at s 0) l; tallies = step_tally_of inverted lent (entry_at s 0) l ∷ [] }

  one-run : (inverted : Bool) → chain_of inverted lent (entries_of (entry_at s) 1 0) l ≡ one inverted
  unfolding one entries_of chain_forward_of chain_inverse_of
  one-run true = refl
  one-run false = refl

  pub one-step : {plan : Plan} {l' : List Float} {tally : Tally} → plan ≡ plan_at inverse s 0 → l' ≡ ran_of (plan_turns_of lent plan) 0 (plan_start_of plan) l
      → tally ≡ tally_of (plan_pass_of lent plan) 0 (plan_start_of plan) l
      → let run = chain_of inverse lent (entries_of (entry_at s) 1 0) l in (l' ≡ run.list) × (tally ∷ replicate 15 no_tally ≡ places_of run.tallies)
  unfolding one
  one-step e el et =
      let r = one-run inverse in (
        el ∙ list_at inverse lent s 0 below e l ∙ sym (ap (λ (run : Run). run.list) r),
        ap (λ (a : Tally). a ∷ replicate 15 no_tally) (et ∙ tally-at inverse lent s 0 below e l) ∙ sym (ap (λ (run : Run). places_of run.tallies) r),
      )

-- ---- steps one after another

module _ (lent : Lent) (s : List ℕ) (plans : List Plan) where
  forward-gone : (n i : ℕ) (more : List Standing) (l : List Float) → i + n ≤ step_count_of s → Ready (plan_at false s) (i + n) plans
      → let gone = gone_of false 0 (passes_from (pass_in lent plans) n i) (starts_from (plan_in plans) n i ++ more) l in
      let run = chain_forward_of lent (entries_of (entry_at s) n i) l in
      (gone.list ≡ run.list) × (tallies_of gone.standings ≡ run.tallies ++ tallies_of more)
  unfolding gone_of passes_from starts_from entries_of chain_forward_of tallies_of
  forward-gone zero i more l h ready = (refl, refl)
  forward-gone (suc n) i more l h ready =
      let below : i < step_count_of s = omega (arith, h) in
      let next : suc i + n ≡ i + suc n = omega arith in
      let there = ready i (omega arith) in
      let listed = list_at false lent s i below there l in
      let told = none_plus _ ∙ tally-at false lent s i below there l in
      let later = forward-gone n (suc i) more (step_list_of false lent (entry_at s i) l) (omega (arith, h)) (rw next ready) in
      (rw listed later.0, rw (listed, told) (ap (λ (tallies : List Tally). step_tally_of false lent (entry_at s i) l ∷ tallies) later.1))

  inverse-gone : (n i : ℕ) (more : List Standing) (l : List Float) → i + n ≤ step_count_of s → Ready (plan_at true s) (i + n) plans
      → let gone = gone_of true 0 (passes_from (pass_in lent plans) n i) (starts_from (plan_in plans) n i ++ more) l in
      let run = chain_inverse_of lent (entries_of (entry_at s) n i) l in
      (gone.list ≡ run.list) × (tallies_of gone.standings ≡ run.tallies ++ tallies_of more)
  unfolding gone_of passes_from starts_from entries_of chain_inverse_of tallies_of
  inverse-gone zero i more l h ready = (refl, refl)
  inverse-gone (suc n) i more l h ready =
      let below : i < step_count_of s = omega (arith, h) in
      let next : suc i + n ≡ i + suc n = omega arith in
      let there = ready i (omega arith) in
      let later = inverse-gone n (suc i) more l (omega (arith, h)) (rw next ready) in
      let run = chain_inverse_of lent (entries_of (entry_at s) n (suc i)) l in
      let listed = list_at true lent s i below there run.list in
      let told = none_plus _ ∙ tally-at true lent s i below there run.list in
      (rw later.0 listed, rw (later.0, told) (ap (λ (tallies : List Tally). step_tally_of true lent (entry_at s i) run.list ∷ tallies) later.1))

-- no step, no tally
none_told : (m : ℕ) → tallies_of (replicate m no_standing) ≡ replicate m no_tally
unfolding tallies_of
none_told zero = refl
none_told (suc m) = ap (λ (tallies : List Tally). no_tally ∷ tallies) (none_told m)

-- all steps in windows are the chain
pub windows_are_the_chain : (inverse : Bool) (lent : Lent) (s : List ℕ) (plans : List Plan) (n : ℕ) (l : List Float) → n ≤ step_count_of s → n ≤ 16 → Ready (plan_at inverse s) n plans
    → let gone = gone_over inverse lent plans n l in
    let run = chain_of inverse lent (entries_of (entry_at s) n 0) l in
    (gone.list ≡ run.list) × (tallies_of gone.standings ≡ places_of run.tallies)
unfolding gone_over
windows_are_the_chain true lent s plans n l h few ready =
    let e = inverse-gone lent s plans n 0 (replicate (16 - n) no_standing) l (omega (arith, h)) (rw (zero-add n) ready) in
    let k = tallies_length lent (entries_of (entry_at s) n 0) l ∙ entries_length (entry_at s) n 0 in
    rw (sixteen_or_fewer n few) (e.0, e.1 ∙ rw (none_told, k))
windows_are_the_chain false lent s plans n l h few ready =
    let e = forward-gone lent s plans n 0 (replicate (16 - n) no_standing) l (omega (arith, h)) (rw (zero-add n) ready) in
    let k = forward_tallies_length lent (entries_of (entry_at s) n 0) l ∙ entries_length (entry_at s) n 0 in
    rw (sixteen_or_fewer n few) (e.0, e.1 ∙ rw (none_told, k))
