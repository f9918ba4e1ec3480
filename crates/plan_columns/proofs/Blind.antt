-- What a step does not look at does not matter to its run: the index, the state, or both. And a
-- step that leaves its state alone leaves it over a whole list. Assumes nothing.
use Prim.Native.Nat.{ℕ, suc, ◌+◌, ◌/◌}
use native.Mathlib.Omega.{arith}
use mathlib.Core.Path.{◌≡◌, refl, sym, ap, ◌∙◌}
use mathlib.Core.Bool.{Bool, true, false, cond}
use mathlib.Core.List.{List, [], ◌∷◌, ◌++◌}
use lib.ListN.{length}
use lib.Ieee.{Float}
use Rattle.tuple.specs.declared.Tuple.{Tuple}
use Rattle.tuple.specs.declared.Shifted.{Shifted}
use Rattle.helmert.specs.declared.State.{State}
use Rattle.helmert.specs.declared.Shift.{Shift}
use Rattle.helmert.specs.Turns.{no_state, all_turns, helmert_turns, number_of}
use Rattle.deformation.specs.declared.Motion.{Motion}
use Rattle.lists.specs.Flat.{four_of, numbers_of}
use Rattle.lists.specs.Run.{Turns, ran_of, count_of, state_after_of}
use Rattle.helmert.proofs.Counts.{all_count}
use Rattle.columns.specs.Columns.{Level, flat_of}
use Rattle.columns.proofs.Laws.{flat-length}
use Rattle.cart.specs.Step.{cart_fwd_of, cart_inv_of}
use Rattle.permtide.specs.Step.{fwd_of, inv_of}
use Rattle.molodensky.specs.Step.{common_of}
use Rattle.turns.specs.Turns.{plain_turns, moved_turns}
use Rattle.reach.specs.Met.{Met, meeting_of, place_met, latitude_met, offsets_met, deformation_met, moved_met_turns, helmert_met}
use Rattle.reach.proofs.Laws.{met_by_tuple, none_of}
use Rattle.deformation_grid.specs.Gridded.{gridded_of, gridded_turns}
use Rattle.plans.specs.declared.Plan.{Plan}
use Rattle.plans.specs.declared.Plan.TheVariants.{CartForward, CartInverse, PermtideEither, DeformationEither, MolodenskyEither, HelmertEither}
use Rattle.plans.specs.Lent.{Lent, gridless, lent_turns, lent_met_turns, gridded_met}
use Rattle.plans.proofs.Lent.{none_met_with_a_grid}
use Rattle.plans.specs.Plans.{plan_turns_of, plan_reach_of}

-- ---- two runs of a step over a list, from indices and states that it does not tell apart

pub record Alike {S : Type 0} (f : Turns S) (Same : ℕ → S → ℕ → S → Type 0) (k : ℕ) (a : S) (j : ℕ) (b : S) (v : Tuple) : Type 0 where
  pub tuple : (f k a v).tuple ≡ (f j b v).tuple
  pub counted : (f k a v).counted ≡ (f j b v).counted
  pub onward : Same (suc k) (f k a v).state (suc j) (f j b v).state

module _ {S : Type 0} (f : Turns S) (Same : ℕ → S → ℕ → S → Type 0)
    (alike : (k : ℕ) (a : S) (j : ℕ) (b : S) (v : Tuple) → Same k a j b → Alike f Same k a j b v) where
  alike-ran : (k : ℕ) (a : S) (j : ℕ) (b : S) (l : List Float) → Same k a j b → ran_of f k a l ≡ ran_of f j b l
  alike-ran k a j b (x ∷ y ∷ z ∷ t ∷ rest) h =
      let turn = alike k a j b (four_of x y z t) h in
      ap (λ (v : Tuple). numbers_of v ++ ran_of f (suc k) (f k a (four_of x y z t)).state rest) turn.tuple
      ∙ ap (λ (u : List Float). numbers_of (f j b (four_of x y z t)).tuple ++ u) (alike-ran (suc k) (f k a (four_of x y z t)).state (suc j) (f j b (four_of x y z t)).state rest turn.onward)
  alike-ran k a j b (x ∷ y ∷ z ∷ []) h = refl
  alike-ran k a j b (x ∷ y ∷ []) h = refl
  alike-ran k a j b (x ∷ []) h = refl
  alike-ran k a j b [] h = refl

  alike-count : (k : ℕ) (a : S) (j : ℕ) (b : S) (l : List Float) → Same k a j b → count_of f k a l ≡ count_of f j b l
  alike-count k a j b (x ∷ y ∷ z ∷ t ∷ rest) h =
      let turn = alike k a j b (four_of x y z t) h in
      ap (λ (c : Bool). cond c 1 0 + count_of f (suc k) (f k a (four_of x y z t)).state rest) turn.counted
      ∙ ap (λ (n : ℕ). cond (f j b (four_of x y z t)).counted 1 0 + n) (alike-count (suc k) (f k a (four_of x y z t)).state (suc j) (f j b (four_of x y z t)).state rest turn.onward)
  alike-count k a j b (x ∷ y ∷ z ∷ []) h = refl
  alike-count k a j b (x ∷ y ∷ []) h = refl
  alike-count k a j b (x ∷ []) h = refl
  alike-count k a j b [] h = refl

  alike-after : (k : ℕ) (a : S) (j : ℕ) (b : S) (l : List Float) → ((k : ℕ) (a : S) (j : ℕ) (b : S) → Same k a j b → a ≡ b) → Same k a j b
      → state_after_of f k a l ≡ state_after_of f j b l
  alike-after k a j b (x ∷ y ∷ z ∷ t ∷ rest) same h =
      alike-after (suc k) (f k a (four_of x y z t)).state (suc j) (f j b (four_of x y z t)).state rest same (alike k a j b (four_of x y z t) h).onward
  alike-after k a j b (x ∷ y ∷ z ∷ []) same h = same k a j b h
  alike-after k a j b (x ∷ y ∷ []) same h = same k a j b h
  alike-after k a j b (x ∷ []) same h = same k a j b h
  alike-after k a j b [] same h = same k a j b h

-- a state that is left alone
steady : {S : Type 0} (f : Turns S) → ((k : ℕ) (state : S) (v : Tuple) → (f k state v).state ≡ state) → (k : ℕ) (state : S) (l : List Float) → state_after_of f k state l ≡ state
steady f stays k state (x ∷ y ∷ z ∷ t ∷ rest) = steady f stays (suc k) (f k state (four_of x y z t)).state rest ∙ stays k state (four_of x y z t)
steady f stays k state (x ∷ y ∷ z ∷ []) = refl
steady f stays k state (x ∷ y ∷ []) = refl
steady f stays k state (x ∷ []) = refl
steady f stays k state [] = refl

-- ---- what a run leaves, for each kind of step, from what its loop says

-- the columns, the state and the count after a step over a list
abbrev Ran : Turns State → ℕ → State → List Float → List Float → State → ℕ → Type 0
Ran f k from l l' state n = (l' ≡ ran_of f k from l) × (state ≡ state_after_of f k from l) × (n ≡ count_of f k from l)

-- a step that looks at neither, at the index, or at the state
abbrev Any : ℕ → State → ℕ → State → Type 0
Any k a j b = ◌≡◌ {A = ℕ} 0 0

abbrev SameIndex : ℕ → State → ℕ → State → Type 0
SameIndex k a j b = k ≡ j

abbrev SameState : ℕ → State → ℕ → State → Type 0
SameState k a j b = a ≡ b

plain_alike : (f : Tuple → Shifted) (k : ℕ) (a : State) (j : ℕ) (b : State) (v : Tuple) → Any k a j b → Alike (plain_turns f) Any k a j b v
plain_alike f k a j b v h = record { tuple = refl; counted = refl; onward = refl }

moved_alike : (op : Motion) (inverse : Bool) (velocities : List Float) (marks : List ℕ) (k : ℕ) (a : State) (j : ℕ) (b : State) (v : Tuple) → SameIndex k a j b
    → Alike (moved_turns op inverse velocities marks) SameIndex k a j b v
moved_alike op inverse velocities marks k a j b v h =
    let f = moved_turns op inverse velocities marks in
    record { tuple = ap (λ (i : ℕ). (f i a v).tuple) h; counted = ap (λ (i : ℕ). (f i a v).counted) h; onward = ap suc h }

carried_alike : (inverse : Bool) (shift : Shift) (k : ℕ) (a : State) (j : ℕ) (b : State) (v : Tuple) → SameState k a j b → Alike (helmert_turns inverse shift) SameState k a j b v
carried_alike inverse shift k a j b v h =
    let f = helmert_turns inverse shift in
    record { tuple = ap (λ (u : State). (f k u v).tuple) h; counted = refl; onward = ap (λ (u : State). (f k u v).state) h }

module _ (k : ℕ) (from : State) (l : List Float) {l' : List Float} {n : ℕ} where
  -- the tuple alone
  plain : (f : Tuple → Shifted) → (l' ≡ ran_of (plain_turns f) 0 no_state l) × (n ≡ count_of (plain_turns f) 0 no_state l) → Ran (plain_turns f) k from l l' from n
  plain f e = (
    e.0 ∙ alike-ran (plain_turns f) Any (plain_alike f) 0 no_state k from l refl,
    sym (steady (plain_turns f) (λ k state v. refl) k from l),
    e.1 ∙ alike-count (plain_turns f) Any (plain_alike f) 0 no_state k from l refl,
  )

  -- the tuple, and the index
  moved : (op : Motion) (inverse : Bool) (velocities : List Float) (marks : List ℕ)
      → (l' ≡ ran_of (moved_turns op inverse velocities marks) k no_state l) × (n ≡ count_of (moved_turns op inverse velocities marks) k no_state l)
      → Ran (moved_turns op inverse velocities marks) k from l l' from n
  moved op inverse velocities marks e = (
    e.0 ∙ alike-ran (moved_turns op inverse velocities marks) SameIndex (moved_alike op inverse velocities marks) k no_state k from l refl,
    sym (steady (moved_turns op inverse velocities marks) (λ k state v. refl) k from l),
    e.1 ∙ alike-count (moved_turns op inverse velocities marks) SameIndex (moved_alike op inverse velocities marks) k no_state k from l refl,
  )

  -- the tuple, and the state
  carried : (inverse : Bool) (shift : Shift) {state : State} → Ran (helmert_turns inverse shift) 0 from l l' state n → Ran (helmert_turns inverse shift) k from l l' state n
  carried inverse shift e = (
    e.0 ∙ alike-ran (helmert_turns inverse shift) SameState (carried_alike inverse shift) 0 from k from l refl,
    e.1 ∙ alike-after (helmert_turns inverse shift) SameState (carried_alike inverse shift) 0 from k from l (λ k a j b h. h) refl,
    e.2 ∙ alike-count (helmert_turns inverse shift) SameState (carried_alike inverse shift) 0 from k from l refl,
  )

  -- the tuple alone, and every one counts
  every : (f : Tuple → Tuple) → (l' ≡ ran_of (all_turns f) 0 no_state l) × (n ≡ length l / 4) → Ran (all_turns f) k from l l' from n
  every f e = plain (λ (v : Tuple). record { tuple = f v; counted = true }) (e.0, e.1 ∙ sym (all_count f 0 no_state l))

  either : (b : Bool) (f g : Tuple → Tuple) → (l' ≡ ran_of (cond b (all_turns f) (all_turns g)) 0 no_state l) × (n ≡ length l / 4)
      → Ran (cond b (all_turns f) (all_turns g)) k from l l' from n
  either true f g e = every f e
  either false f g e = every g e

-- ---- those that meet an angle out of reach

moved_met_alike : (op : Motion) (inverse : Bool) (velocities : List Float) (marks : List ℕ) (k : ℕ) (a : State) (j : ℕ) (b : State) (v : Tuple) → SameIndex k a j b
    → Alike (moved_met_turns op inverse velocities marks) SameIndex k a j b v
moved_met_alike op inverse velocities marks k a j b v h =
    let f = moved_met_turns op inverse velocities marks in
    record { tuple = ap (λ (i : ℕ). (f i a v).tuple) h; counted = ap (λ (i : ℕ). (f i a v).counted) h; onward = ap suc h }

carried_met_alike : (inverse : Bool) (shift : Shift) (k : ℕ) (a : State) (j : ℕ) (b : State) (v : Tuple) → SameState k a j b
    → Alike (meeting_of (helmert_met shift) (helmert_turns inverse shift)) SameState k a j b v
carried_met_alike inverse shift k a j b v h =
    let f = meeting_of (helmert_met shift) (helmert_turns inverse shift) in
    record { tuple = ap (λ (u : State). (f k u v).tuple) h; counted = ap (λ (u : State). (f k u v).counted) h; onward = ap (λ (u : State). (f k u v).state) h }

-- ---- deformation: by the velocity and mark at the index, or by the grid

module _ (k : ℕ) (from : State) (l : List Float) (op : Motion) (inverse : Bool) (lent : Lent) where
  abbrev chosen : Bool → Turns State
  chosen b = cond b (moved_turns op inverse lent.velocities lent.marks) (gridded_turns op inverse lent.grid)

  abbrev chosen-met : Bool → Met State
  chosen-met b = cond b (deformation_met op lent.marks) (λ k state v. gridded_met op lent.grid v)

  lent-moved : {l' : List Float} {n : ℕ} → (l' ≡ ran_of (lent_turns op inverse lent) k no_state l) × (n ≡ count_of (lent_turns op inverse lent) k no_state l)
      → Ran (lent_turns op inverse lent) k from l l' from n
  lent-moved e = by-test (gridless lent) e
    where
      by-test : (b : Bool) {l' : List Float} {n : ℕ} → (l' ≡ ran_of (chosen b) k no_state l) × (n ≡ count_of (chosen b) k no_state l) → Ran (chosen b) k from l l' from n
      by-test true e = moved k from l op inverse lent.velocities lent.marks e
      by-test false e =
          let f = gridded_turns op inverse lent.grid in
          let alike = plain_alike (gridded_of op inverse lent.grid) in (
            e.0 ∙ alike-ran f Any alike k no_state k from l refl,
            sym (steady f (λ k state v. refl) k from l),
            e.1 ∙ alike-count f Any alike k no_state k from l refl,
          )

  lent_met : count_of (lent_met_turns op inverse lent) k no_state l ≡ count_of (lent_met_turns op inverse lent) k from l
  lent_met = by-test (gridless lent)
    where
      by-test : (b : Bool) → count_of (meeting_of (chosen-met b) (chosen b)) k no_state l ≡ count_of (meeting_of (chosen-met b) (chosen b)) k from l
      by-test true = alike-count (moved_met_turns op inverse lent.velocities lent.marks) SameIndex (moved_met_alike op inverse lent.velocities lent.marks) k no_state k from l refl
      by-test false =
          let f = gridded_turns op inverse lent.grid in
          none_met_with_a_grid op lent.grid f k no_state l ∙ sym (none_met_with_a_grid op lent.grid f k from l)

-- from what each of the two loops says, what holds of what is lent
abbrev Told : Lent → ℕ → List Float → Motion → Bool → List Float → ℕ → ℕ → Type 0
Told lent k l op inverse l' n m =
    (l' ≡ ran_of (lent_turns op inverse lent) k no_state l) × (n ≡ count_of (lent_turns op inverse lent) k no_state l) × (m ≡ count_of (lent_met_turns op inverse lent) k no_state l)

pub by_what_is_lent : (lent : Lent) (k : ℕ) (l : List Float) (op : Motion) (inverse : Bool) {l' : List Float} {n m : ℕ} → gridless lent ≡ true
    → (l' ≡ ran_of (moved_turns op inverse lent.velocities lent.marks) k no_state l)
    × (n ≡ count_of (moved_turns op inverse lent.velocities lent.marks) k no_state l)
    × (m ≡ count_of (moved_met_turns op inverse lent.velocities lent.marks) k no_state l)
    → Told lent k l op inverse l' n m
by_what_is_lent lent k l op inverse none e = rw none e

pub by_a_grid : (lent : Lent) (k : ℕ) (l : List Float) (op : Motion) (inverse : Bool) {l' : List Float} {n m : ℕ} → gridless lent ≡ false
    → (l' ≡ ran_of (gridded_turns op inverse lent.grid) 0 no_state l) × (n ≡ count_of (gridded_turns op inverse lent.grid) 0 no_state l) → m ≡ 0
    → Told lent k l op inverse l' n m
by_a_grid lent k l op inverse some e z =
    let f = gridded_turns op inverse lent.grid in
    let alike = plain_alike (gridded_of op inverse lent.grid) in
    rw some (
      e.0 ∙ alike-ran f Any alike 0 no_state k no_state l refl,
      e.1 ∙ alike-count f Any alike 0 no_state k no_state l refl,
      z ∙ sym (none_met_with_a_grid op lent.grid f k no_state l),
    )

-- what the pass of a plan's kind says
abbrev pub Passing : Lent → ℕ → State → List Float → ℕ → Plan → Type 0
Passing lent k from l m (CartForward ellps) = m ≡ number_of place_met l
Passing lent k from l m (CartInverse c) = m ≡ 0
Passing lent k from l m (PermtideEither op inverse) = m ≡ number_of latitude_met l
Passing lent k from l m (DeformationEither op inverse) = m ≡ count_of (lent_met_turns op inverse lent) k no_state l
Passing lent k from l m (MolodenskyEither op inverse) = m ≡ number_of (offsets_met op.abridged) l
Passing lent k from l m (HelmertEither shift inverse) = m ≡ count_of (meeting_of (helmert_met shift) (helmert_turns inverse shift)) 0 from l

-- and what follows
met_told : (lent : Lent) (k : ℕ) (from : State) (l : List Float) {m : ℕ} (plan : Plan) → Passing lent k from l m plan
    → m ≡ count_of (plan_reach_of lent plan) k from l
met_told lent k from l (CartForward ellps) e = e ∙ sym (met_by_tuple place_met (plain_turns (cart_fwd_of ellps)) k from l)
met_told lent k from l (CartInverse c) e = e ∙ sym (met_by_tuple (λ (v : Tuple). false) (plain_turns (cart_inv_of c)) k from l ∙ none_of l)
met_told lent k from l (PermtideEither op inverse) e = e ∙ sym (met_by_tuple latitude_met (cond inverse (all_turns (inv_of op)) (all_turns (fwd_of op))) k from l)
met_told lent k from l (DeformationEither op inverse) e =
    e ∙ lent_met k from l op inverse lent
met_told lent k from l (MolodenskyEither op inverse) e = e ∙ sym (met_by_tuple (offsets_met op.abridged) (all_turns (common_of op inverse)) k from l)
met_told lent k from l (HelmertEither shift inverse) e =
    e ∙ alike-count (meeting_of (helmert_met shift) (helmert_turns inverse shift)) SameState (carried_met_alike inverse shift) 0 from k from l refl

-- four numbers a row
pub rows : (x y z t : List Float) {n : ℕ} → Level x y z t → n ≡ length x → n ≡ length (flat_of x y z t) / 4
rows x y z t level e = rw (flat-length x y z t level) (omega (arith, e))

-- ---- what the loop of a plan's kind says, and what follows

abbrev pub Looped : Lent → ℕ → State → List Float → List Float → ℕ → Plan → Type 0
Looped lent k from l l' n (CartForward ellps) = (l' ≡ ran_of (plain_turns (cart_fwd_of ellps)) 0 no_state l) × (n ≡ count_of (plain_turns (cart_fwd_of ellps)) 0 no_state l)
Looped lent k from l l' n (CartInverse c) = (l' ≡ ran_of (plain_turns (cart_inv_of c)) 0 no_state l) × (n ≡ count_of (plain_turns (cart_inv_of c)) 0 no_state l)
Looped lent k from l l' n (PermtideEither op inverse) = (l' ≡ ran_of (cond inverse (all_turns (inv_of op)) (all_turns (fwd_of op))) 0 no_state l) × (n ≡ length l / 4)
Looped lent k from l l' n (DeformationEither op inverse) =
    (l' ≡ ran_of (lent_turns op inverse lent) k no_state l) × (n ≡ count_of (lent_turns op inverse lent) k no_state l)
Looped lent k from l l' n (MolodenskyEither op inverse) = (l' ≡ ran_of (all_turns (common_of op inverse)) 0 no_state l) × (n ≡ length l / 4)
Looped lent k from l l' n (HelmertEither shift inverse) = ⊥

abbrev pub Carried : State → List Float → List Float → ℕ → State → Plan → Type 0
Carried from l l' n state (CartForward ellps) = ⊥
Carried from l l' n state (CartInverse c) = ⊥
Carried from l l' n state (PermtideEither op inverse) = ⊥
Carried from l l' n state (DeformationEither op inverse) = ⊥
Carried from l l' n state (MolodenskyEither op inverse) = ⊥
Carried from l l' n state (HelmertEither shift inverse) = Ran (helmert_turns inverse shift) 0 from l l' state n

module _ (lent : Lent) (k : ℕ) (from : State) (l : List Float) {l' : List Float} {n : ℕ} where
  -- a kind that leaves the state alone
  looped : (plan : Plan) → Looped lent k from l l' n plan → Ran (plan_turns_of lent plan) k from l l' from n
  looped (CartForward ellps) e = plain k from l (cart_fwd_of ellps) e
  looped (CartInverse c) e = plain k from l (cart_inv_of c) e
  looped (PermtideEither op inverse) e = either k from l inverse (inv_of op) (fwd_of op) e
  looped (DeformationEither op inverse) e = lent-moved k from l op inverse lent e
  looped (MolodenskyEither op inverse) e = every k from l (common_of op inverse) e
  looped (HelmertEither shift inverse) e = absurd e

  -- Helmert, which hands its state on
  handed-on : {state : State} (plan : Plan) → Carried from l l' n state plan → Ran (plan_turns_of lent plan) k from l l' state n
  handed-on (CartForward ellps) e = absurd e
  handed-on (CartInverse c) e = absurd e
  handed-on (PermtideEither op inverse) e = absurd e
  handed-on (DeformationEither op inverse) e = absurd e
  handed-on (MolodenskyEither op inverse) e = absurd e
  handed-on (HelmertEither shift inverse) e = carried k from l inverse shift e

-- ---- both: what a step leaves, and how many met an angle out of reach

abbrev RanMet : Turns State → Turns State → ℕ → State → List Float → List Float → State → ℕ → ℕ → Type 0
RanMet f g k from l l' state n m = (l' ≡ ran_of f k from l) × (state ≡ state_after_of f k from l) × (n ≡ count_of f k from l) × (m ≡ count_of g k from l)

module _ (lent : Lent) (k : ℕ) (from : State) (l : List Float) {l' : List Float} {n m : ℕ} where
  pub looped-met : (plan : Plan) → Looped lent k from l l' n plan → Passing lent k from l m plan
      → RanMet (plan_turns_of lent plan) (plan_reach_of lent plan) k from l l' from n m
  looped-met plan e p =
      let r = looped lent k from l plan e in (r.0, r.1, r.2, met_told lent k from l plan p)

  pub handed_on-met : {state : State} (plan : Plan) → Carried from l l' n state plan → Passing lent k from l m plan
      → RanMet (plan_turns_of lent plan) (plan_reach_of lent plan) k from l l' state n m
  handed_on-met plan e p =
      let r = handed-on lent k from l plan e in (r.0, r.1, r.2, met_told lent k from l plan p)
