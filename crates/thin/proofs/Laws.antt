-- A step over a list of tuple records is the step over the same numbers as a flat list; and the law
-- by which the loop over the records is proved: what one turn makes carries the loop's invariant
-- from a tuple to the next. Assumes nothing.
use Prim.Native.Nat.{ℕ, zero, suc, ◌+◌, ◌*◌, ◌-◌, ◌%◌, ◌≤◌, ◌<◌}
use native.Mathlib.Omega.{arith}
use native.Mathlib.Nat.{add_assoc, add-zero, zero-add}
use native.Mathlib.Numerals.{add-one}
use mathlib.Core.Path.{◌≡◌, refl, sym, ap, ◌∙◌}
use mathlib.Core.Bool.{Bool, true, false, cond}
use mathlib.Core.List.{List, [], ◌∷◌, ◌++◌, append_assoc, append-nil}
use lib.ListN.{length, take, drop, set, get_or, replicate, length-set, length-replicate, drop_of_length-le}
use lib.Seq.{take-suc-set, drop-set-lt, drop-cons, take_all}
use lib.Dec.{eqb, ltb}
use lib.Ieee.{Float, nan}
use borrow.Author.Tests.{eq-eqb, ne_eqb, eqb-true, lt-ltb, le-ltb, ltb-true, ltb-false}
use Rattle.blocks.proofs.Counts.{at_most_one}
use Rattle.tuple.specs.declared.Tuple.{Tuple}
use Rattle.tuple.specs.Sums.{nan_tuple}
use Rattle.helmert.specs.declared.State.{State}
use Rattle.bodies.specs.declared.Step.{Step}
use Rattle.lists.specs.Flat.{four_of, numbers_of}
use Rattle.lists.specs.Run.{Turns, ran_of, count_of}
use Rattle.sheet.specs.declared.Entry.{Entry}
use Rattle.sheet.specs.declared.Refusal.{Refusal}
use Rattle.sheet.specs.Layout.{step_count_of, kind_at, entry_at}
use Rattle.sheet.specs.Rules.{accepted, of_call, first_broken, has_deformation, refusal_of}
use Rattle.sheet.proofs.Order.{not_zero, accepted_count}
use Rattle.plans.specs.Lent.{lent_of}
use Rattle.tally.specs.declared.Tally.{Tally}
use Rattle.tally.specs.Tallies.{no_tally}
use Rattle.plans.specs.Passes.{Pass, meets, tally_of}
use Rattle.chain.specs.Chain.{turns_of, met_of, pass_of, state_of, step_list_of, tuples_counted_of, tuples_met_of, step_tally_of, chain_forward_of, chain_inverse_of, chain_of, places_of, entries_of}
use Rattle.chain.specs.Rules.{Answer, refusal9, refusal10, shift_refusal_of, outcome, refused_answer, ran_outcome, outcome_of, shift_of}
use Rattle.chain.proofs.Laws.{Forward, Backward, forward_start, forward-again, forward-end, backward_start, backward-again, backward-end}
use Rattle.plans.specs.declared.Plan.{Plan}
use Rattle.plans.specs.declared.Standing.{Standing}
use Rattle.plans.specs.Plans.{plan_of, plan_turns_of, plan_met_of, plan_pass_of}
use Rattle.chain.proofs.Windows.{plan_turns, plan_met}
use Rattle.thin.specs.declared.Turned.{Turned}
use Rattle.thin.specs.declared.Todo.{Todo}
use Rattle.thin.specs.Tuples.{tuples_of, counted_among, tuples_tally_of, flat_of}
use Rattle.thin.specs.Plans.{tallied, turn_of}
use Rattle.thin.specs.Sheets.{step_index_of, todo_of, thin_refusal_of, steps_of}

-- ---- the same numbers as a flat list

pub flat_tuples : {S : Type 0} (f : Turns S) (k : ℕ) (state : S) (us : List Tuple) → flat_of (tuples_of f k state us) ≡ ran_of f k state (flat_of us)
flat_tuples f k state [] = refl
flat_tuples f k state (u ∷ us) =
    ap (λ (more : List Float). numbers_of (f k state u).tuple ++ more) (flat_tuples f (suc k) (f k state u).state us)

flat-counted : {S : Type 0} (f : Turns S) (k : ℕ) (state : S) (us : List Tuple) → counted_among f k state us ≡ count_of f k state (flat_of us)
flat-counted f k state [] = refl
flat-counted f k state (u ∷ us) =
    ap (λ (more : ℕ). cond (f k state u).counted 1 0 + more) (flat-counted f (suc k) (f k state u).state us)

pub flat_tally : (p : Pass) (k : ℕ) (state : State) (us : List Tuple) → tuples_tally_of p k state us ≡ tally_of p k state (flat_of us)
flat_tally p k state us =
    let ec = flat-counted p.turns k state us in
    let em = flat-counted (meets p) k state us in
    λ j. record { count = ec j; met = em j }

-- two lists with the same numbers are the same list
abbrev tuples_in : List Float → List Tuple
tuples_in (x ∷ y ∷ z ∷ t ∷ rest) = four_of x y z t ∷ tuples_in rest
tuples_in (x ∷ y ∷ z ∷ []) = []
tuples_in (x ∷ y ∷ []) = []
tuples_in (x ∷ []) = []
tuples_in [] = []

tuples_in_flat : (us : List Tuple) → tuples_in (flat_of us) ≡ us
tuples_in_flat [] = refl
tuples_in_flat (u ∷ us) = ap (λ (more : List Tuple). u ∷ more) (tuples_in_flat us)

pub flat_injective : (us ws : List Tuple) → flat_of us ≡ flat_of ws → us ≡ ws
flat_injective us ws e = sym (tuples_in_flat us) ∙ ap tuples_in e ∙ tuples_in_flat ws

-- ---- a plan makes of every tuple what its step makes of it

pub plan_pass : (velocities : List Float) (marks : List ℕ) (inverse : Bool) (step : Step) → plan_pass_of (lent_of velocities marks []) (plan_of inverse step) ≡ pass_of inverse (lent_of velocities marks []) step
plan_pass velocities marks inverse step =
    let lent = lent_of velocities marks [] in
    let et = plan_turns lent inverse step in
    let em = plan_met inverse lent step in
    λ j. record { turns = et j; met = em j }

pub turn_is : (velocities : List Float) (marks : List ℕ) (plan : Plan) (k : ℕ) (at : Standing) (u : Tuple)
    → turn_of velocities marks plan k at u ≡ tallied at (plan_turns_of (lent_of velocities marks []) plan k at.state u) (plan_met_of (lent_of velocities marks []) plan k at.state u)
unfolding turn_of
turn_is velocities marks plan k at u = refl

-- ---- the loop over the records

-- the invariant at index i: what stands before it and what the run makes from there on are the run
-- of the whole list, and so are the tallies
pub record Walked (p : Pass) (start : State) (ys : List Tuple) (i : ℕ) (at : Standing) (zs : List Tuple) : Type 0 where
  pub within : i ≤ length ys
  pub long : length zs ≡ length ys
  pub run : take i zs ++ tuples_of p.turns i at.state (drop i zs) ≡ tuples_of p.turns 0 start ys
  pub counted : at.tally.count + counted_among p.turns i at.state (drop i zs) ≡ counted_among p.turns 0 start ys
  pub met : at.tally.met + counted_among (meets p) i at.state (drop i zs) ≡ counted_among (meets p) 0 start ys
  pub few : (at.tally.count ≤ i) × (at.tally.met ≤ i)

pub walk_start : (p : Pass) (start : State) (ys : List Tuple) → Walked p start ys 0 (record { state = start; tally = no_tally }) ys
walk_start p start ys =
    record {
      within = omega arith;
      long = refl;
      run = refl;
      counted = zero-add (counted_among p.turns 0 start ys);
      met = zero-add (counted_among (meets p) 0 start ys);
      few = (omega arith, omega arith);
    }

pub walk_again : {p : Pass} {start : State} {ys : List Tuple} {i : ℕ} {at : Standing} {zs : List Tuple} {r : Turned} → i < length ys
    → r ≡ tallied at (p.turns i at.state (get_or zs i nan_tuple)) (p.met i at.state (get_or zs i nan_tuple))
    → Walked p start ys i at zs → Walked p start ys (i + 1) r.carried (set zs i r.tuple)
walk_again {p} {start} {ys} {i} {at} {zs} {r} h e now =
    let u = get_or zs i nan_tuple in
    let room : i < length zs = rw now.long h in
    let after : drop (suc i) (set zs i r.tuple) ≡ drop (suc i) zs = drop-set-lt (suc i) zs i r.tuple (omega arith) in
    record {
      within = omega (arith, h);
      long = length-set zs i r.tuple ∙ now.long;
      run = rw (add-one, take-suc-set zs i r.tuple room, after, e, append_assoc) (rw (drop-cons zs i nan_tuple room) at now.run);
      counted = rw (add-one, after, e, add_assoc at.tally.count) (rw (drop-cons zs i nan_tuple room) at now.counted);
      met = rw (add-one, after, e, add_assoc at.tally.met) (rw (drop-cons zs i nan_tuple room) at now.met);
      few = rw e (omega (arith, at_most_one (p.turns i at.state u).counted, now.few.0), omega (arith, at_most_one (p.met i at.state u), now.few.1));
    }

pub walk_end : {p : Pass} {start : State} {ys : List Tuple} {i : ℕ} {at : Standing} {zs : List Tuple} → length ys ≤ i → Walked p start ys i at zs
    → (zs ≡ tuples_of p.turns 0 start ys) × (at.tally ≡ tuples_tally_of p 0 start ys)
walk_end {p} {start} {ys} {i} {at} {zs} h now =
    let past : length zs ≤ i = rw now.long h in
    let none : drop i zs ≡ [] = drop_of_length-le zs past in
    let ec : at.tally.count ≡ counted_among p.turns 0 start ys = rw (none, add-zero at.tally.count) at now.counted in
    let em : at.tally.met ≡ counted_among (meets p) 0 start ys = rw (none, add-zero at.tally.met) at now.met in
    (rw (take_all i zs past, none, append-nil) at now.run, λ j. record { count = ec j; met = em j })

-- ---- a sheet's steps over the records: the flat entry's laws, of the same numbers

pub flat-length : (us : List Tuple) → length (flat_of us) ≡ 4 * length us
flat-length [] = refl
flat-length (u ∷ us) = rw (flat-length us) (omega arith)

-- the rules read the list's length and nothing else of it
pub same_refusal : (own : Refusal) (deforms : Bool) (l l' velocities : List Float) (marks : List ℕ) → length l ≡ length l' → shift_refusal_of own deforms l velocities marks ≡ shift_refusal_of own deforms l' velocities marks
unfolding shift_refusal_of
same_refusal own deforms l l' velocities marks e = rw e

pub refusal_is_flat : (s : List ℕ) (us : List Tuple) (velocities : List Float) (marks : List ℕ)
    → thin_refusal_of s (length us) velocities marks ≡ shift_refusal_of (refusal_of s) (has_deformation (kind_at s) (step_count_of s)) (flat_of us) velocities marks
unfolding thin_refusal_of
refusal_is_flat s us velocities marks = same_refusal _ _ _ _ velocities marks (length-replicate (4 * length us) nan ∙ sym (flat-length us))

-- rule 9 of whole tuples
four-times : (tuples : ℕ) → ltb 8192 (4 * tuples) ≡ ltb 2048 tuples
four-times tuples = either_way (ltb 2048 tuples) refl
  where
    either_way : (t : Bool) → ltb 2048 tuples ≡ t → ltb 8192 (4 * tuples) ≡ t
    either_way true e = lt-ltb 8192 (4 * tuples) (let h = ltb-true 2048 tuples e in omega arith)
    either_way false e = le-ltb 8192 (4 * tuples) (let h = ltb-false 2048 tuples e in omega arith)

nine_is : (tuples : ℕ) → refusal9 (4 * tuples) ≡ ltb 2048 tuples
unfolding refusal9
nine_is tuples = rw (eq-eqb (4 * tuples % 4) 0 (omega arith)) (four-times tuples)

module _ (own : Refusal) (deforms : Bool) (l velocities : List Float) (marks : List ℕ) where
  abbrev refusal : Refusal
  refusal = shift_refusal_of own deforms l velocities marks

  pub own_first : (own.number ≡ 0 → ⊥) → refusal ≡ own
  unfolding shift_refusal_of first_broken
  own_first h = rw (ne_eqb own.number 0 h)

  own-accepted : (k : ℕ) → own.number ≡ k → refusal.number ≡ 0 → own.number ≡ 0
  own-accepted zero ek e = ek
  own-accepted (suc k) ek e = ap (λ (r : Refusal). r.number) (sym (own_first (λ z. not_zero k (sym ek ∙ z)))) ∙ e

  by-lists : (nine ten : Bool) → (cond nine (of_call 9) (cond ten (of_call 10) accepted)).number ≡ 0 → cond nine (of_call 9) (cond ten (of_call 10) accepted) ≡ accepted
  by-lists true ten e = absurd (not_zero 8 e)
  by-lists false true e = absurd (not_zero 9 e)
  by-lists false false e = refl

  -- refusal 0 is the refusal of nothing
  refusal-none : refusal.number ≡ 0 → refusal ≡ accepted
  unfolding shift_refusal_of first_broken
  refusal-none e =
      let none : own.number ≡ 0 = own-accepted own.number refl e in
      let e' = rw (eq-eqb own.number 0 none) at e in
      rw (eq-eqb own.number 0 none) (by-lists (refusal9 (length l)) (refusal10 deforms (length l) velocities marks) e')

-- the outcomes of the tests, in their order
module _ (own : Refusal) (deforms : Bool) (tuples : ℕ) (velocities : List Float) (marks : List ℕ) (none : own.number ≡ 0) where
  abbrev given : Refusal
  given = shift_refusal_of own deforms (replicate (4 * tuples) nan) velocities marks

  pub too_many : 2048 < tuples → given ≡ of_call 9
  unfolding shift_refusal_of first_broken
  too_many h = rw (eq-eqb own.number 0 none, length-replicate (4 * tuples) nan, nine_is tuples, lt-ltb 2048 tuples h)

  pub lent-wrong : tuples ≤ 2048 → refusal10 deforms (4 * tuples) velocities marks ≡ true → given ≡ of_call 10
  unfolding shift_refusal_of first_broken
  lent-wrong h ten = rw (eq-eqb own.number 0 none, length-replicate (4 * tuples) nan, nine_is tuples, le-ltb 2048 tuples h, ten)

  pub nothing-wrong : tuples ≤ 2048 → refusal10 deforms (4 * tuples) velocities marks ≡ false → given ≡ accepted
  unfolding shift_refusal_of first_broken
  nothing-wrong h ten = rw (eq-eqb own.number 0 none, length-replicate (4 * tuples) nan, nine_is tuples, le-ltb 2048 tuples h, ten)

-- at most 16 steps are run: of a refused call none, and an accepted sheet has no more
steps_at : (s : List ℕ) (refusal : Refusal) (t : Bool) → eqb refusal.number 0 ≡ t → (refusal.number ≡ 0 → step_count_of s ≤ 16) → cond t (step_count_of s) 0 ≤ 16
steps_at s refusal true e few = few (eqb-true refusal.number 0 e)
steps_at s refusal false e few = omega arith

pub steps-few : (s : List ℕ) (tuples : ℕ) (velocities : List Float) (marks : List ℕ) → steps_of s (thin_refusal_of s tuples velocities marks) ≤ 16
unfolding steps_of thin_refusal_of
steps-few s tuples velocities marks =
    steps_at s (shift_refusal_of (refusal_of s) (has_deformation (kind_at s) (step_count_of s)) (replicate (4 * tuples) nan) velocities marks) _ refl
    (λ e. accepted_count s (own-accepted (refusal_of s) _ _ velocities marks (refusal_of s).number refl e))

-- ---- the loop over the steps, either way: `chain`'s invariants, of the same numbers

abbrev pub Ahead : Bool → List Float → List ℕ → (ℕ → Entry) → ℕ → List Float → ℕ → List Float → List Tally → Type 0
Ahead false velocities marks entry n l₀ i l tallies = Forward (lent_of velocities marks []) entry n l₀ i l tallies
Ahead true velocities marks entry n l₀ i l tallies = Backward (lent_of velocities marks []) entry n l₀ (n - i) l tallies

module _ (velocities : List Float) (marks : List ℕ) (entry : ℕ → Entry) (n : ℕ) (l₀ : List Float) (most : n ≤ 16) where
  pub ahead-start : (inverse : Bool) → Ahead inverse velocities marks entry n l₀ 0 l₀ (replicate 16 no_tally)
  ahead-start false = forward_start (lent_of velocities marks []) entry n l₀ most
  ahead-start true = let z : n - 0 ≡ n = omega arith in rw z (backward_start (lent_of velocities marks []) entry n l₀ most)

  module _ (i : ℕ) (l : List Float) (tallies : List Tally) where
    pub ahead-again : (inverse : Bool) {l' : List Float} {tally : Tally} → i < n
        → l' ≡ step_list_of inverse (lent_of velocities marks []) (entry (step_index_of inverse n i)) l → tally ≡ step_tally_of inverse (lent_of velocities marks []) (entry (step_index_of inverse n i)) l
        → Ahead inverse velocities marks entry n l₀ i l tallies → Ahead inverse velocities marks entry n l₀ (i + 1) l' (set tallies (step_index_of inverse n i) tally)
    ahead-again false h el ec now = forward-again most h refl el ec now
    ahead-again true h el ec now =
        let z : n - (i + 1) ≡ n - 1 - i = omega arith in
        rw z (backward-again most (n - 1 - i) (omega (arith, h)) refl el ec now)

    pub ahead-end : (inverse : Bool) → n ≤ i → Ahead inverse velocities marks entry n l₀ i l tallies
        → (l ≡ (chain_of inverse (lent_of velocities marks []) (entries_of entry n 0) l₀).list) × (tallies ≡ places_of (chain_of inverse (lent_of velocities marks []) (entries_of entry n 0) l₀).tallies)
    ahead-end false h now = forward-end most h now
    ahead-end true h now = backward-end most (omega (arith, h)) now

-- one step over the records is the chain's step over the same numbers
module _ (inverse : Bool) (s : List ℕ) (velocities : List Float) (marks : List ℕ) (n i : ℕ) (todo : Todo) (zs zs' : List Tuple) (tally : Tally) (et : todo ≡ todo_of inverse s n i)
    (ez : zs' ≡ tuples_of (turns_of todo.inverse (lent_of velocities marks []) todo.step) 0 (state_of todo.step) zs) (ec : tally ≡ tuples_tally_of (pass_of todo.inverse (lent_of velocities marks []) todo.step) 0 (state_of todo.step) zs) where
  pub todo-list : flat_of zs' ≡ step_list_of inverse (lent_of velocities marks []) (entry_at s (step_index_of inverse n i)) (flat_of zs)
  unfolding todo_of step_list_of
  todo-list = ap flat_of ez ∙ flat_tuples (turns_of todo.inverse (lent_of velocities marks []) todo.step) 0 (state_of todo.step) zs ∙ rw et

  pub todo-tally : tally ≡ step_tally_of inverse (lent_of velocities marks []) (entry_at s (step_index_of inverse n i)) (flat_of zs)
  unfolding todo_of tuples_counted_of tuples_met_of
  todo-tally = ec ∙ flat_tally (pass_of todo.inverse (lent_of velocities marks []) todo.step) 0 (state_of todo.step) zs ∙ ap (λ (t : Todo). tally_of (pass_of t.inverse (lent_of velocities marks []) t.step) 0 (state_of t.step) (flat_of zs)) et

-- no step: the list as it was, and no tallies
no_tallies : (inverse : Bool) (velocities : List Float) (marks : List ℕ) (l : List Float) → places_of (chain_of inverse (lent_of velocities marks []) [] l).tallies ≡ replicate 16 no_tally
unfolding chain_forward_of chain_inverse_of
no_tallies true velocities marks l = refl
no_tallies false velocities marks l = refl

same_list : (inverse : Bool) (velocities : List Float) (marks : List ℕ) (l : List Float) → (chain_of inverse (lent_of velocities marks []) [] l).list ≡ l
unfolding chain_forward_of chain_inverse_of
same_list true velocities marks l = refl
same_list false velocities marks l = refl

-- the loop's end: what the flat entry answers, and its list
module _ (inverse : Bool) (s : List ℕ) (velocities : List Float) (marks : List ℕ) (ys zs : List Tuple) (answer : Answer) where
  abbrev flat-refusal : Refusal
  flat-refusal = shift_refusal_of (refusal_of s) (has_deformation (kind_at s) (step_count_of s)) (flat_of ys) velocities marks

  by-refusal : (t : Bool) → eqb flat-refusal.number 0 ≡ t → answer.refusal ≡ flat-refusal
      → (flat_of zs ≡ (chain_of inverse (lent_of velocities marks []) (entries_of (entry_at s) (cond t (step_count_of s) 0) 0) (flat_of ys)).list)
      → (answer.tallies ≡ places_of (chain_of inverse (lent_of velocities marks []) (entries_of (entry_at s) (cond t (step_count_of s) 0) 0) (flat_of ys)).tallies)
      → outcome answer (flat_of zs) ≡ cond t (ran_outcome (chain_of inverse (lent_of velocities marks []) (entries_of (entry_at s) (step_count_of s) 0) (flat_of ys))) (outcome (refused_answer flat-refusal) (flat_of ys))
  unfolding entries_of
  by-refusal true e er el ec = λ j. outcome (record { refusal = (er ∙ refusal-none _ _ _ velocities marks (eqb-true flat-refusal.number 0 e)) j; tallies = ec j }) (el j)
  by-refusal false e er el ec = λ j. outcome (record { refusal = er j; tallies = (ec ∙ no_tallies inverse velocities marks (flat_of ys)) j }) ((el ∙ same_list inverse velocities marks (flat_of ys)) j)

  pub shift-end : {refusal : Refusal} {n i : ℕ} → refusal ≡ thin_refusal_of s (length ys) velocities marks → n ≡ steps_of s refusal → answer.refusal ≡ refusal → n ≤ i
      → Ahead inverse velocities marks (entry_at s) n (flat_of ys) i (flat_of zs) answer.tallies → outcome answer (flat_of zs) ≡ shift_of inverse s (flat_of ys) velocities marks
  unfolding shift_of outcome_of steps_of
  shift-end {refusal} {n} {i} er en ea past now =
      let e : refusal ≡ flat-refusal = er ∙ refusal_is_flat s ys velocities marks in
      let m : n ≡ cond (eqb flat-refusal.number 0) (step_count_of s) 0 = en ∙ rw e in
      let end = rw m at (ahead-end velocities marks (entry_at s) n (flat_of ys) (rw (en, er) (steps-few s (length ys) velocities marks)) i (flat_of zs) answer.tallies inverse past now) in
      by-refusal (eqb flat-refusal.number 0) refl (ea ∙ e) end.0 end.1

-- ---- the loop over the steps as the walk has it

pub place_below : (inverse : Bool) (n i : ℕ) → i < n → step_index_of inverse n i < n
place_below true n i h = omega arith
place_below false n i h = h

pub todo_place : (inverse : Bool) (s : List ℕ) (n i : ℕ) (todo : Todo) → todo ≡ todo_of inverse s n i → todo.place ≡ step_index_of inverse n i
unfolding todo_of
todo_place inverse s n i todo et = ap (λ (t : Todo). t.place) et

pub record Going (inverse : Bool) (s : List ℕ) (velocities : List Float) (marks : List ℕ) (ys : List Tuple) (refusal : Refusal) (n i : ℕ) (zs : List Tuple) (answer : Answer) : Type 0 where
  pub told : answer.refusal ≡ refusal
  pub long : length zs ≡ length ys
  pub ahead : Ahead inverse velocities marks (entry_at s) n (flat_of ys) i (flat_of zs) answer.tallies

-- the answer of a call with some tallies so far
abbrev pub answering : Refusal → List Tally → Answer
answering refusal tallies = record { refusal = refusal; tallies = tallies }

-- a call that is not refused runs every step
pub all_steps : (s : List ℕ) (refusal : Refusal) (n : ℕ) → refusal.number ≡ 0 → n ≡ step_count_of s → n ≡ steps_of s refusal
unfolding steps_of
all_steps s refusal n none e = rw (e, eq-eqb refusal.number 0 none)

pub going_few : (s : List ℕ) (velocities : List Float) (marks : List ℕ) (ys : List Tuple) (refusal : Refusal) (n : ℕ) → refusal ≡ thin_refusal_of s (length ys) velocities marks → n ≡ steps_of s refusal → n ≤ 16
going_few s velocities marks ys refusal n er en = rw (en, er) (steps-few s (length ys) velocities marks)

module _ (inverse : Bool) (s : List ℕ) (velocities : List Float) (marks : List ℕ) (ys : List Tuple) (refusal : Refusal) (n : ℕ) (most : n ≤ 16) where
  pub going_start : (answer : Answer) → answer ≡ refused_answer refusal → Going inverse s velocities marks ys refusal n 0 ys answer
  going_start answer e =
      record {
        told = ap (λ (r : Answer). r.refusal) e;
        long = refl;
        ahead = rw e (ahead-start velocities marks (entry_at s) n (flat_of ys) most inverse);
      }

  pub going-again : (i : ℕ) (zs zs' : List Tuple) (answer answer' : Answer) (todo : Todo) (tally : Tally) → i < n → todo ≡ todo_of inverse s n i → length zs' ≡ length zs
      → (zs' ≡ tuples_of (turns_of todo.inverse (lent_of velocities marks []) todo.step) 0 (state_of todo.step) zs) × (tally ≡ tuples_tally_of (pass_of todo.inverse (lent_of velocities marks []) todo.step) 0 (state_of todo.step) zs)
      → answer' ≡ record { refusal = answer.refusal; tallies = set answer.tallies todo.place tally } → Going inverse s velocities marks ys refusal n i zs answer → Going inverse s velocities marks ys refusal n (i + 1) zs' answer'
  going-again i zs zs' answer answer' todo tally h et el ran ea now =
      let el' = todo-list inverse s velocities marks n i todo zs zs' tally et ran.0 ran.1 in
      let ec = todo-tally inverse s velocities marks n i todo zs zs' tally et ran.0 ran.1 in
      record {
        told = ap (λ (r : Answer). r.refusal) ea ∙ now.told;
        long = el ∙ now.long;
        ahead = rw (ea, todo_place inverse s n i todo et) (ahead-again velocities marks (entry_at s) n (flat_of ys) most i (flat_of zs) answer.tallies inverse h el' ec now.ahead);
      }

pub going_end : (inverse : Bool) (s : List ℕ) (velocities : List Float) (marks : List ℕ) (ys : List Tuple) (refusal : Refusal) (n : ℕ) → refusal ≡ thin_refusal_of s (length ys) velocities marks → n ≡ steps_of s refusal
    → (i : ℕ) (zs : List Tuple) (answer : Answer) → n ≤ i → Going inverse s velocities marks ys refusal n i zs answer → outcome answer (flat_of zs) ≡ shift_of inverse s (flat_of ys) velocities marks
going_end inverse s velocities marks ys refusal n er en i zs answer past now = shift-end inverse s velocities marks ys zs answer er en now.told past now.ahead
