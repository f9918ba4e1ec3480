-- Neither number of a step's tally is over the number of tuples, so no call's is over 2,048. Assumes
-- nothing.
use Prim.Native.Nat.{ℕ, zero, suc, ◌*◌, ◌-◌, ◌%◌, ◌≤◌}
use native.Mathlib.Omega.{arith}
use mathlib.Core.Path.{◌≡◌, refl, sym, ap, subst, ◌∙◌}
use mathlib.Core.Bool.{Bool, true, false, not}
use mathlib.Core.List.{List, [], ◌∷◌, ◌++◌}
use borrow.Author.Tests.{eqb-true, eqb-false, ltb-false}
use lib.Dec.{eqb, ltb}
use lib.ListN.{length, get_or, replicate}
use lib.Ieee.{Float}
use Rattle.tally.specs.declared.Tally.{Tally}
use Rattle.tally.specs.Tallies.{no_tally}
use Rattle.plans.proofs.Windows.{tally_few}
use Rattle.sheet.specs.declared.Entry.{Entry}
use Rattle.sheet.specs.declared.Refusal.{Refusal}
use Rattle.sheet.specs.Layout.{step_count_of as steps, kind_at, entry_at}
use Rattle.sheet.specs.Rules.{of_call, has_deformation, refusal_of}
use Rattle.sheet.proofs.Order.{neither}
use Rattle.plans.specs.Lent.{Lent, lent_of}
use Rattle.chain.specs.Chain.{pass_of, state_of, reversed_of, step_list_of, tuples_counted_of, tuples_met_of, step_tally_of, chain_forward_of, chain_inverse_of, chain_of, places_of, entries_of}
use Rattle.chain.specs.Rules.{refusal9, refusal10, Outcome, outcome, refused_answer, outcome_of, shift_of}
use Rattle.chain.proofs.Laws.{step_length}
use Rattle.chain.proofs.Outcome.{refused-own, refused-9, refused-10, run-through}

-- ---- one step

-- four numbers for each tuple of either
abbrev Fits : ℕ → Tally → Type 0
Fits numbers tally = (4 * tally.count ≤ numbers) × (4 * tally.met ≤ numbers)

-- a step counts no more tuples than the list has, and no more meet an angle out of reach
pub step_tells_few : (inverse : Bool) (lent : Lent) (e : Entry) (l : List Float)
    → Fits (length l) (step_tally_of inverse lent e l)
unfolding tuples_counted_of tuples_met_of
step_tells_few inverse lent e l = tally_few (pass_of (reversed_of inverse e) lent e.step) 0 (state_of e.step) l

fits_as : {m n : ℕ} (tally : Tally) → m ≡ n → Fits m tally → Fits n tally
fits_as tally e h = (omega (arith, e, h.0), omega (arith, e, h.1))

-- ---- steps one after another

module _ (lent : Lent) where
  forward-few : (es : List Entry) (l : List Float) (i : ℕ) → Fits (length l) (get_or (chain_forward_of lent es l).tallies i no_tally)
  unfolding chain_forward_of
  forward-few [] l i = (omega arith, omega arith)
  forward-few (e ∷ es) l zero = step_tells_few false lent e l
  forward-few (e ∷ es) l (suc i) =
      fits_as _ (step_length false lent e l) (forward-few es (step_list_of false lent e l) i)

  inverse_length : (es : List Entry) (l : List Float) → length (chain_inverse_of lent es l).list ≡ length l
  unfolding chain_inverse_of
  inverse_length [] l = refl
  inverse_length (e ∷ es) l = step_length true lent e (chain_inverse_of lent es l).list ∙ inverse_length es l

  inverse-few : (es : List Entry) (l : List Float) (i : ℕ) → Fits (length l) (get_or (chain_inverse_of lent es l).tallies i no_tally)
  unfolding chain_inverse_of
  inverse-few [] l i = (omega arith, omega arith)
  inverse-few (e ∷ es) l zero =
      fits_as _ (inverse_length es l) (step_tells_few true lent e (chain_inverse_of lent es l).list)
  inverse-few (e ∷ es) l (suc i) = inverse-few es l i

  forward_length : (es : List Entry) (l : List Float) → length (chain_forward_of lent es l).list ≡ length l
  unfolding chain_forward_of
  forward_length [] l = refl
  forward_length (e ∷ es) l = forward_length es (step_list_of false lent e l) ∙ step_length false lent e l

  -- a chain leaves the list's length
  pub chain_length : (inverse : Bool) (es : List Entry) (l : List Float) → length (chain_of inverse lent es l).list ≡ length l
  chain_length true es l = inverse_length es l
  chain_length false es l = forward_length es l

  chain-few : (inverse : Bool) (es : List Entry) (l : List Float) (i : ℕ) → Fits (length l) (get_or (chain_of inverse lent es l).tallies i no_tally)
  chain-few true es l i = inverse-few es l i
  chain-few false es l i = forward-few es l i

-- ---- the other places are zeros

zeros : (m i : ℕ) → get_or {A = Tally} (replicate m no_tally) i no_tally ≡ no_tally
zeros zero i = refl
zeros (suc m) zero = refl
zeros (suc m) (suc i) = zeros m i

placed : (tallies : List Tally) (m n : ℕ) → ((i : ℕ) → Fits n (get_or tallies i no_tally)) → (i : ℕ) → Fits n (get_or (tallies ++ replicate m no_tally) i no_tally)
placed [] m n h i = rw (zeros m i) (omega arith, omega arith)
placed (a ∷ tallies) m n h zero = h 0
placed (a ∷ tallies) m n h (suc i) = placed tallies m n (λ j. h (suc j)) i

-- neither number over 2,048
abbrev pub Small : Tally → Type 0
Small tally = (tally.count ≤ 2048) × (tally.met ≤ 2048)

none_small : (tally : Tally) → tally ≡ no_tally → Small tally
none_small tally e = (omega (arith, ap (λ (a : Tally). a.count) e), omega (arith, ap (λ (a : Tally). a.met) e))

-- ---- a call

short : (l : List Float) → refusal9 (length l) ≡ false → length l ≤ 8192
unfolding refusal9
short l h = ltb-false 8192 (length l) (neither (not (eqb (length l % 4) 0)) (ltb 8192 (length l)) h).1

-- of a run over a list in rule 9, and of a refused call
pub run_few : (lent : Lent) (inverse : Bool) (es : List Entry) (l : List Float) → refusal9 (length l) ≡ false → (i : ℕ)
    → Small (get_or (places_of (chain_of inverse lent es l).tallies) i no_tally)
run_few lent inverse es l nine i =
    let tallies = (chain_of inverse lent es l).tallies in
    let few = placed tallies (16 - length tallies) (length l) (chain-few lent inverse es l) i in
    (omega (arith, short l nine, few.0), omega (arith, short l nine, few.1))

pub none_few : (i : ℕ) → Small (get_or (replicate 16 no_tally) i no_tally)
none_few i = none_small _ (zeros 16 i)

module _ (own : Refusal) (deforms inverse : Bool) (es : List Entry) (l velocities : List Float) (marks : List ℕ) where
  abbrev told : List Tally
  told = (outcome_of own deforms inverse es l velocities marks).answer.tallies

  none_told : (r : Refusal) → outcome_of own deforms inverse es l velocities marks ≡ outcome (refused_answer r) l → (i : ℕ) → Small (get_or told i no_tally)
  none_told r e i = subst (λ (o : Outcome). Small (get_or o.answer.tallies i no_tally)) (sym e) (none_small _ (zeros 16 i))

  by-test : (none nine ten : Bool) → eqb own.number 0 ≡ none → refusal9 (length l) ≡ nine → refusal10 deforms (length l) velocities marks ≡ ten
      → (i : ℕ) → Small (get_or told i no_tally)
  by-test false nine ten a b c i = none_told own (refused-own own deforms inverse es l velocities marks (eqb-false _ _ a)) i
  by-test true true ten a b c i = none_told (of_call 9) (refused-9 own deforms inverse es l velocities marks (eqb-true _ _ a) b) i
  by-test true false true a b c i = none_told (of_call 10) (refused-10 own deforms inverse es l velocities marks (eqb-true _ _ a) b c) i
  by-test true false false a b c i =
      let run = chain_of inverse (lent_of velocities marks []) es l in
      let e = run-through own deforms inverse es l velocities marks (eqb-true _ _ a) b c in
      let few = placed run.tallies (16 - length run.tallies) (length l) (chain-few (lent_of velocities marks []) inverse es l) i in
      subst (λ (o : Outcome). Small (get_or o.answer.tallies i no_tally)) (sym e) (omega (arith, short l b, few.0), omega (arith, short l b, few.1))

  pub tallies-few : (i : ℕ) → Small (get_or told i no_tally)
  tallies-few i = by-test (eqb own.number 0) (refusal9 (length l)) (refusal10 deforms (length l) velocities marks) refl refl refl i

-- no number of a call over a sheet's bytes is over 2,048, whatever the call was given
pub shift_tells_few : (inverse : Bool) (s : List ℕ) (l velocities : List Float) (marks : List ℕ) (i : ℕ)
    → Small (get_or (shift_of inverse s l velocities marks).answer.tallies i no_tally)
unfolding shift_of
shift_tells_few inverse s l velocities marks i =
    tallies-few (refusal_of s) (has_deformation (kind_at s) (steps s)) inverse (entries_of (entry_at s) (steps s) 0) l velocities marks i
