-- A step made ready: what depends on the record alone is worked out once a list, and the direction
-- is in the plan.
use Rattle.std.specs.Prelude.{ℕ, ◌<◌, ◌≡◌, Bool, true, false, cond, List, eqb, ltb, get_or}
use Rattle.std.specs.Float.{nan}
use Rattle.ellipsoid.specs.Figure.{named_of}
use Rattle.cart.specs.Step.{cart_fwd_of, cart_inv_of, inverse_figures_of}
use Rattle.permtide.specs.Step.{tide_of, fwd_of, inv_of}
use Rattle.molodensky.specs.Step.{moped_of, common_of}
use Rattle.deformation.specs.Record.{directed_of}
use Rattle.deformation.specs.Step.{motion_of}
use Rattle.helmert.specs.declared.State.{State}
use Rattle.helmert.specs.Modes.{prepare_of, start_of}
use Rattle.badekas.specs.Step.{shift_of}
use Rattle.bodies.specs.declared.Step.{Step}
use Rattle.cart.specs.declared.Cart as record_of
use Rattle.bodies.specs.declared.Step.TheVariants.{Cart, Permtide, Deformation, Molodensky, Badekas, Helmert}
use Rattle.bodies.specs.Kinds.{length_of}
use Rattle.lists.specs.Run.{Turns}
use Rattle.helmert.specs.Turns.{no_state, all_turns, helmert_turns}
use Rattle.turns.specs.Turns.{plain_turns}
use Rattle.reach.specs.Met.{Met, meeting_of, cart_met, permtide_met, molodensky_met, helmert_met}
use Rattle.plans.specs.Lent.{Lent, lent_turns, lent_met}
use Rattle.plans.specs.Passes.{Pass}
use Rattle.plans.specs.declared.Plan.{Plan}
use Rattle.plans.specs.declared.Plan.TheVariants.{CartForward, CartInverse, PermtideEither, DeformationEither, MolodenskyEither, HelmertEither}

-- the kind that a body is read by: 0, which is none, where the body is not as long as its kind's
-- are
abbrev pub held_kind_of : ℕ → ℕ → ℕ
held_kind_of kind n = cond (eqb n (length_of kind)) kind 0

-- the plan of a cart step in a direction, and of any step
abbrev pub cart_plan_of : Bool → record_of.Cart → Plan
cart_plan_of inverse r = cond inverse (CartInverse (inverse_figures_of (named_of r.ellipsoid))) (CartForward (named_of r.ellipsoid))

unfoldable pub plan_of : Bool → Step → Plan
plan_of inverse (Cart r) = cart_plan_of inverse r
plan_of inverse (Permtide r) = PermtideEither (tide_of r) inverse
plan_of inverse (Deformation r) = DeformationEither (motion_of r) (directed_of r inverse)
plan_of inverse (Molodensky r) = MolodenskyEither (moped_of r) inverse
plan_of inverse (Helmert h) = HelmertEither (prepare_of h) inverse
plan_of inverse (Badekas r) = HelmertEither (shift_of r) inverse

-- the plan at an index of an array; past the end what an array reads as there
abbrev pub plan_in : List Plan → ℕ → Plan
plan_in plans i = get_or plans i (CartForward (record { a = nan; f = nan; es = nan; b = nan; eps = nan }))

-- an array has no more than sixteen
unfoldable pub at_most_sixteen : ℕ → ℕ
at_most_sixteen n = cond (ltb n 16) n 16

-- its first n are the plans of n steps
abbrev pub Ready : (ℕ → Plan) → ℕ → List Plan → Type 0
Ready plan n plans = (i : ℕ) → i < n → plan_in plans i ≡ plan i

-- what a plan makes of one tuple
abbrev pub plan_turns_of : Lent → Plan → Turns State
plan_turns_of lent (CartForward ellps) = plain_turns (cart_fwd_of ellps)
plan_turns_of lent (CartInverse k) = plain_turns (cart_inv_of k)
plan_turns_of lent (PermtideEither op inverse) = cond inverse (all_turns (inv_of op)) (all_turns (fwd_of op))
plan_turns_of lent (DeformationEither op inverse) = lent_turns op inverse lent
plan_turns_of lent (MolodenskyEither op inverse) = all_turns (common_of op inverse)
plan_turns_of lent (HelmertEither shift inverse) = helmert_turns inverse shift

-- whether a tuple meets an angle out of reach of sine and cosine in it
abbrev pub plan_met_of : Lent → Plan → Met State
plan_met_of lent (CartForward ellps) = cart_met false
plan_met_of lent (CartInverse k) = cart_met true
plan_met_of lent (PermtideEither op inverse) = permtide_met
plan_met_of lent (DeformationEither op inverse) = lent_met op lent
plan_met_of lent (MolodenskyEither op inverse) = molodensky_met op
plan_met_of lent (HelmertEither shift inverse) = helmert_met shift

-- the plan's turns that count such tuples
abbrev pub plan_reach_of : Lent → Plan → Turns State
plan_reach_of lent plan = meeting_of (plan_met_of lent plan) (plan_turns_of lent plan)

-- both together
abbrev pub plan_pass_of : Lent → Plan → Pass
plan_pass_of lent plan = record { turns = plan_turns_of lent plan; met = plan_met_of lent plan }

-- the state that a plan starts each list in
abbrev pub plan_start_of : Plan → State
plan_start_of (CartForward ellps) = no_state
plan_start_of (CartInverse k) = no_state
plan_start_of (PermtideEither op inverse) = no_state
plan_start_of (DeformationEither op inverse) = no_state
plan_start_of (MolodenskyEither op inverse) = no_state
plan_start_of (HelmertEither shift inverse) = start_of shift
