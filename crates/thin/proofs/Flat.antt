-- What the thin entries answer is what the flat entries answer on the same numbers; and a contract
-- of theirs has one answer. Assumes nothing.
use Prim.Native.Nat.{ℕ}
use mathlib.Core.Path.{◌≡◌, sym, ap, ◌∙◌}
use mathlib.Core.Bool.{Bool}
use mathlib.Core.List.{List, []}
use lib.Ieee.{Float}
use Rattle.std.specs.Prelude.{Result}
use Rattle.tuple.specs.declared.Tuple.{Tuple}
use Rattle.cart.specs.declared.Cart.{Cart}
use Rattle.helmert.specs.declared.Helmert.{Helmert}
use Rattle.helmert.specs.Modes.{prepare_of, start_of}
use Rattle.bodies.specs.declared.Step.TheVariants.{Cart as cart_step, Helmert as helmert_step}
use Rattle.sheet.specs.declared.Entry.{Entry}
use Rattle.sheet.specs.declared.Refusal.{Refusal}
use Rattle.tally.specs.declared.Tally.{Tally}
use Rattle.lists.specs.Run.{ran_of}
use Rattle.helmert.specs.Turns.{no_state, helmert_turns}
use Rattle.turns.specs.Turns.{cart_turns}
use Rattle.plans.specs.Lent.{lent_of}
use Rattle.reach.specs.Met.{cart_met, helmert_met}
use Rattle.plans.specs.Passes.{tally_of}
use Rattle.chain.specs.Chain.{reversed_of, pass_of, state_of, step_list_of, tuples_counted_of, tuples_met_of, step_tally_of}
use Rattle.chain.specs.Rules.{Answer, Outcome, outcome, handed_out}
use Rattle.thin.specs.Tuples.{flat_of, step_tuples_of, step_tuples_tally_of}
use Rattle.thin.proofs.Laws.{flat_tuples, flat_tally, flat_injective}

module _ (inverse : Bool) (velocities : List Float) (marks : List ℕ) (us : List Tuple) where
  -- ---- a step of any kind: `chain`'s step over the flat list

  pub step-is-flat : (e : Entry)
      → (flat_of (step_tuples_of (reversed_of inverse e) velocities marks e.step us) ≡ step_list_of inverse (lent_of velocities marks []) e (flat_of us))
      × (step_tuples_tally_of (reversed_of inverse e) velocities marks e.step us ≡ step_tally_of inverse (lent_of velocities marks []) e (flat_of us))
  unfolding step_list_of tuples_counted_of tuples_met_of
  step-is-flat e =
      let pass = pass_of (reversed_of inverse e) (lent_of velocities marks []) e.step in
      (flat_tuples pass.turns 0 (state_of e.step) us, flat_tally pass 0 (state_of e.step) us)

  -- ---- Helmert in every mode, with its carried state: the flat list and its two numbers

  pub helmert-is-flat : (h : Helmert)
      → (flat_of (step_tuples_of inverse velocities marks (helmert_step h) us) ≡ ran_of (helmert_turns inverse (prepare_of h)) 0 (start_of (prepare_of h)) (flat_of us))
      × (step_tuples_tally_of inverse velocities marks (helmert_step h) us ≡ tally_of (record { turns = helmert_turns inverse (prepare_of h); met = helmert_met (prepare_of h) }) 0 (start_of (prepare_of h)) (flat_of us))
  helmert-is-flat h =
      (flat_tuples (helmert_turns inverse (prepare_of h)) 0 (start_of (prepare_of h)) us, flat_tally (pass_of inverse (lent_of velocities marks []) (helmert_step h)) 0 (start_of (prepare_of h)) us)

  -- ---- cart, which has no state: `cart_columns`'s

  pub cart-is-flat : (r : Cart)
      → (flat_of (step_tuples_of inverse velocities marks (cart_step r) us) ≡ ran_of (cart_turns inverse r) 0 no_state (flat_of us))
      × (step_tuples_tally_of inverse velocities marks (cart_step r) us ≡ tally_of (record { turns = cart_turns inverse r; met = cart_met inverse }) 0 no_state (flat_of us))
  cart-is-flat r = (flat_tuples (cart_turns inverse r) 0 no_state us, flat_tally (pass_of inverse (lent_of velocities marks []) (cart_step r)) 0 no_state us)

-- ---- two answers that meet `shift`'s contract are equal, and so are the lists afterwards

pub one_outcome : (answer answer' : Answer) (us us' : List Tuple) (given : Outcome) → outcome answer (flat_of us) ≡ given → outcome answer' (flat_of us') ≡ given → (answer ≡ answer') × (us ≡ us')
one_outcome answer answer' us us' given e e' =
    (ap (λ (r : Outcome). r.answer) (e ∙ sym e'), flat_injective us us' (ap (λ (r : Outcome). r.list) (e ∙ sym e')))

pub one_handed_out : (result result' : Result (List Tally) Refusal) (us us' : List Tuple) (given : Outcome)
    → (result ≡ handed_out given.answer) × (flat_of us ≡ given.list) → (result' ≡ handed_out given.answer) × (flat_of us' ≡ given.list) → (result ≡ result') × (us ≡ us')
one_handed_out result result' us us' given e e' = (e.0 ∙ sym e'.0, flat_injective us us' (e.1 ∙ sym e'.1))
