-- A chain with a grid is the chain with lent velocities and marks that are what the lookup finds
-- where the deformation step is reached: the list, each step's count, and how many tuples met an
-- angle out of reach. By induction over the steps, for a step that does not deform looks at nothing
-- that is lent, and the one that does is `grid-run-is-lent-run`. Assumes nothing.
use Prim.Native.Nat.{ℕ, suc, ◌+◌}
use native.Mathlib.Nat.{zero-add}
use native.Mathlib.Omega.{arith}
use mathlib.Core.Path.{◌≡◌, refl, sym, ap, ◌∙◌, fun_ext}
use mathlib.Core.Bool.{Bool, true, false, cond, true≢false}
use mathlib.Core.List.{List, [], ◌∷◌}
use borrow.Author.Tests.{not-true}
use lib.Dec.{eqb}
use lib.ListN.{length}
use lib.Ieee.{Float}
use Rattle.tuple.specs.declared.Tuple.{Tuple}
use Rattle.helmert.specs.declared.State.{State}
use Rattle.helmert.specs.Turns.{no_state}
use Rattle.lists.specs.Flat.{four_of}
use Rattle.lists.specs.Run.{Turns, ran_of, count_of}
use Rattle.turns.specs.Turns.{mark_at, moved_turns}
use Rattle.columns.specs.Passed.{later_turns}
use Rattle.columns.proofs.Passed.{later-counted}
use Rattle.deformation.specs.declared.Motion.{Motion}
use Rattle.deformation.specs.Record.{directed_of}
use Rattle.deformation.specs.Step.{motion_of}
use Rattle.reach.specs.Met.{meeting_of, deformation_met}
use Rattle.deformation_grid.specs.Gridded.{found_for, gridded_turns}
use Rattle.deformation_grid.specs.Found.{velocities_found, marks_found}
use Rattle.deformation_grid.proofs.Laws.{grid-run-is-lent-run}
use Rattle.bodies.specs.declared.Step.{Step}
use Rattle.bodies.specs.declared.Step.TheVariants.{Cart, Permtide, Deformation, Molodensky, Badekas, Helmert}
use Rattle.sheet.specs.declared.Entry.{Entry}
use Rattle.sheet.proofs.Order.{neither}
use Rattle.tally.specs.declared.Tally.{Tally}
use Rattle.plans.specs.Lent.{Lent, lent_of}
use Rattle.plans.specs.Passes.{Pass, tally_of}
use Rattle.plans.proofs.Lent.{gridded_meets_nothing, none_met_with_a_grid}
use Rattle.chain.specs.Chain.{Run, pass_of, state_of, reversed_of, step_list_of, tuples_counted_of, tuples_met_of, step_tally_of, chain_forward_of, chain_inverse_of, chain_of}
use Rattle.chain.specs.Found.{nothing_lent, is_deformation, found_at, some_deforms, at_most_one_deforms, found_forward, found_inverse, found_over}

-- ---- with the marks that are found, no fix meets an angle out of reach

next_mark : (m : ℕ) (ms : List ℕ) (k : ℕ) → mark_at (m ∷ ms) (1 + k) ≡ mark_at ms k
next_mark m ms k = let one : 1 + k ≡ suc k = omega arith in rw one

module _ (op : Motion) (s : List ℕ) where
  abbrev meeting_by : List ℕ → Turns State → Turns State
  meeting_by marks f = meeting_of (deformation_met op marks) f

  later-marks : (m : ℕ) (ms : List ℕ) (f : Turns State) → later_turns 1 (meeting_by (m ∷ ms) f) ≡ meeting_by ms (later_turns 1 f)
  later-marks m ms f = fun_ext (λ (k : ℕ). fun_ext (λ (state : State). fun_ext (λ (v : Tuple). rw (next_mark m ms k))))

  none-met-by-marks-found : (f : Turns State) (state : State) (l : List Float) → count_of (meeting_by (marks_found op.ellps s l) f) 0 state l ≡ 0
  unfolding marks_found
  none-met-by-marks-found f state (x ∷ y ∷ z ∷ t ∷ rest) =
      let v = four_of x y z t in
      let m = (found_for op.ellps s v).mark in
      let ms = marks_found op.ellps s rest in
      let g = meeting_by (m ∷ ms) f in
      let after = (f 0 state v).state in
      ap (λ (b : Bool). cond b 1 0 + count_of g 1 after rest) (gridded_meets_nothing op s v)
      ∙ zero-add (count_of g 1 after rest)
      ∙ sym (later-counted g 1 after rest)
      ∙ ap (λ (h : Turns State). count_of h 0 after rest) (later-marks m ms f)
      ∙ none-met-by-marks-found (later_turns 1 f) after rest
  none-met-by-marks-found f state (x ∷ y ∷ z ∷ []) = refl
  none-met-by-marks-found f state (x ∷ y ∷ []) = refl
  none-met-by-marks-found f state (x ∷ []) = refl
  none-met-by-marks-found f state [] = refl

-- ---- one step

-- a step that does not deform looks at nothing that is lent
same_pass : (a b : Lent) (inverse : Bool) (step : Step) → is_deformation step ≡ false → pass_of inverse a step ≡ pass_of inverse b step
unfolding is_deformation
same_pass a b inverse (Cart r) h = refl
same_pass a b inverse (Permtide r) h = refl
same_pass a b inverse (Deformation r) h = absurd (true≢false h)
same_pass a b inverse (Molodensky r) h = refl
same_pass a b inverse (Helmert r) h = refl
same_pass a b inverse (Badekas r) h = refl

module _ (a b : Lent) (inverse : Bool) (e : Entry) (l : List Float) (h : is_deformation e.step ≡ false) where
  same_list : step_list_of inverse a e l ≡ step_list_of inverse b e l
  unfolding step_list_of
  same_list = ap (λ (p : Pass). ran_of p.turns 0 (state_of e.step) l) (same_pass a b (reversed_of inverse e) e.step h)

  same-tally : step_tally_of inverse a e l ≡ step_tally_of inverse b e l
  unfolding tuples_counted_of tuples_met_of
  same-tally = ap (λ (p : Pass). tally_of p 0 (state_of e.step) l) (same_pass a b (reversed_of inverse e) e.step h)

module _ (velocities : List Float) (marks grid : List ℕ) (some : eqb (length grid) 0 ≡ false) where
  abbrev given : Lent
  given = lent_of velocities marks grid

  -- the step that deforms is lent what the lookup finds
  ran-found : (inverse : Bool) (step : Step) (l : List Float) → is_deformation step ≡ true
      → ran_of (pass_of inverse given step).turns 0 (state_of step) l ≡ ran_of (pass_of inverse (found_at grid step l) step).turns 0 (state_of step) l
  unfolding is_deformation
  ran-found inverse (Cart r) l h = absurd (true≢false (sym h))
  ran-found inverse (Permtide r) l h = absurd (true≢false (sym h))
  ran-found inverse (Deformation r) l h = rw some (grid-run-is-lent-run (motion_of r) (directed_of r inverse) grid no_state l).0
  ran-found inverse (Molodensky r) l h = absurd (true≢false (sym h))
  ran-found inverse (Helmert r) l h = absurd (true≢false (sym h))
  ran-found inverse (Badekas r) l h = absurd (true≢false (sym h))

  tally-found : (inverse : Bool) (step : Step) (l : List Float) → is_deformation step ≡ true
      → tally_of (pass_of inverse given step) 0 (state_of step) l ≡ tally_of (pass_of inverse (found_at grid step l) step) 0 (state_of step) l
  unfolding is_deformation
  tally-found inverse (Cart r) l h = absurd (true≢false (sym h))
  tally-found inverse (Permtide r) l h = absurd (true≢false (sym h))
  tally-found inverse (Deformation r) l h =
      let op = motion_of r in
      let d = directed_of r inverse in
      let counted = (grid-run-is-lent-run op d grid no_state l).1 in
      let f = moved_turns op d (velocities_found op.ellps grid l) (marks_found op.ellps grid l) in
      let met = none_met_with_a_grid op grid (gridded_turns op d grid) 0 no_state l ∙ sym (none-met-by-marks-found op grid f no_state l) in
      rw some (λ j. record { count = counted j; met = met j })
  tally-found inverse (Molodensky r) l h = absurd (true≢false (sym h))
  tally-found inverse (Helmert r) l h = absurd (true≢false (sym h))
  tally-found inverse (Badekas r) l h = absurd (true≢false (sym h))

  module _ (inverse : Bool) (e : Entry) (l : List Float) (h : is_deformation e.step ≡ true) where
    found-list : step_list_of inverse given e l ≡ step_list_of inverse (found_at grid e.step l) e l
    unfolding step_list_of
    found-list = ran-found (reversed_of inverse e) e.step l h

    found-tally : step_tally_of inverse given e l ≡ step_tally_of inverse (found_at grid e.step l) e l
    unfolding tuples_counted_of tuples_met_of
    found-tally = tally-found (reversed_of inverse e) e.step l h

-- ---- a chain's first entry

abbrev joined : Tally → List Float → List Tally → Run
joined tally l tallies = record { list = l; tallies = tally ∷ tallies }

joins : {t u : Tally} {l k : List Float} {r q : List Tally} → t ≡ u → l ≡ k → r ≡ q → joined t l r ≡ joined u k q
joins a b c = λ j. joined (a j) (b j) (c j)

list_of : {r q : Run} → r ≡ q → r.list ≡ q.list
list_of e = ap (λ (run : Run). run.list) e

told_of : {r q : Run} → r ≡ q → r.tallies ≡ q.tallies
told_of e = ap (λ (run : Run). run.tallies) e

module _ (lent : Lent) (e : Entry) (es : List Entry) (l : List Float) where
  open-forward : chain_forward_of lent (e ∷ es) l
      ≡ joined (step_tally_of false lent e l) (chain_forward_of lent es (step_list_of false lent e l)).list (chain_forward_of lent es (step_list_of false lent e l)).tallies
  unfolding chain_forward_of
  open-forward = refl

  open-inverse : chain_inverse_of lent (e ∷ es) l
      ≡ joined (step_tally_of true lent e (chain_inverse_of lent es l).list) (step_list_of true lent e (chain_inverse_of lent es l).list) (chain_inverse_of lent es l).tallies
  unfolding chain_inverse_of
  open-inverse = refl

both_forward : (a b : Lent) (e : Entry) (es : List Entry) (l : List Float) → step_tally_of false a e l ≡ step_tally_of false b e l
    → chain_forward_of a es (step_list_of false a e l) ≡ chain_forward_of b es (step_list_of false b e l) → chain_forward_of a (e ∷ es) l ≡ chain_forward_of b (e ∷ es) l
both_forward a b e es l t r = open-forward a e es l ∙ joins t (list_of r) (told_of r) ∙ sym (open-forward b e es l)

both_inverse : (a b : Lent) (e : Entry) (es : List Entry) (l : List Float) → chain_inverse_of a es l ≡ chain_inverse_of b es l
    → step_tally_of true a e (chain_inverse_of a es l).list ≡ step_tally_of true b e (chain_inverse_of a es l).list
    → step_list_of true a e (chain_inverse_of a es l).list ≡ step_list_of true b e (chain_inverse_of a es l).list → chain_inverse_of a (e ∷ es) l ≡ chain_inverse_of b (e ∷ es) l
both_inverse a b e es l r t k =
    open-inverse a e es l
    ∙ joins (t ∙ ap (step_tally_of true b e) (list_of r)) (k ∙ ap (step_list_of true b e) (list_of r)) (told_of r)
    ∙ sym (open-inverse b e es l)

-- ---- a chain without a deformation step

none_after : (e : Entry) (es : List Entry) → some_deforms (e ∷ es) ≡ false → (is_deformation e.step ≡ false) × (some_deforms es ≡ false)
unfolding some_deforms
none_after e es h = neither (is_deformation e.step) (some_deforms es) h

same_forward : (a b : Lent) (es : List Entry) (l : List Float) → some_deforms es ≡ false → chain_forward_of a es l ≡ chain_forward_of b es l
unfolding chain_forward_of
same_forward a b [] l h = refl
same_forward a b (e ∷ es) l h =
    let n = none_after e es h in
    both_forward a b e es l (same-tally a b false e l n.0)
    (same_forward a b es (step_list_of false a e l) n.1 ∙ ap (chain_forward_of b es) (same_list a b false e l n.0))

same_inverse : (a b : Lent) (es : List Entry) (l : List Float) → some_deforms es ≡ false → chain_inverse_of a es l ≡ chain_inverse_of b es l
unfolding chain_inverse_of
same_inverse a b [] l h = refl
same_inverse a b (e ∷ es) l h =
    let n = none_after e es h in
    let run = chain_inverse_of a es l in
    both_inverse a b e es l (same_inverse a b es l n.1) (same-tally a b true e run.list n.0) (same_list a b true e run.list n.0)

-- ---- a chain with one

module _ (e : Entry) (es : List Entry) where
  one-here : is_deformation e.step ≡ true → at_most_one_deforms (e ∷ es) ≡ true → some_deforms es ≡ false
  unfolding at_most_one_deforms
  one-here d h = not-true (some_deforms es) (rw d at h)

  one_later : is_deformation e.step ≡ false → at_most_one_deforms (e ∷ es) ≡ true → at_most_one_deforms es ≡ true
  unfolding at_most_one_deforms
  one_later d h = rw d at h

  module _ (grid : List ℕ) (l : List Float) where
    forward-here : is_deformation e.step ≡ true → found_forward grid (e ∷ es) l ≡ found_at grid e.step l
    unfolding found_forward
    forward-here d = rw d

    forward-later : is_deformation e.step ≡ false → found_forward grid (e ∷ es) l ≡ found_forward grid es (step_list_of false nothing_lent e l)
    unfolding found_forward
    forward-later d = rw d

    inverse-here : is_deformation e.step ≡ true → found_inverse grid (e ∷ es) l ≡ found_at grid e.step (chain_inverse_of nothing_lent es l).list
    unfolding found_inverse
    inverse-here d = rw d

    inverse-later : is_deformation e.step ≡ false → found_inverse grid (e ∷ es) l ≡ found_inverse grid es l
    unfolding found_inverse
    inverse-later d = rw d

module _ (velocities : List Float) (marks grid : List ℕ) (some : eqb (length grid) 0 ≡ false) where
  abbrev lent : Lent
  lent = lent_of velocities marks grid

  found-forward : (es : List Entry) (l : List Float) → at_most_one_deforms es ≡ true → chain_forward_of lent es l ≡ chain_forward_of (found_forward grid es l) es l
  unfolding chain_forward_of
  found-forward [] l h = refl
  found-forward (e ∷ es) l h = by-test (λ (k : List Float). λ (o : at_most_one_deforms es ≡ true). found-forward es k o) (is_deformation e.step) refl
    where
      by-test : ((k : List Float) → at_most_one_deforms es ≡ true → chain_forward_of lent es k ≡ chain_forward_of (found_forward grid es k) es k) → (b : Bool) → is_deformation e.step ≡ b
          → chain_forward_of lent (e ∷ es) l ≡ chain_forward_of (found_forward grid (e ∷ es) l) (e ∷ es) l
      by-test later true d =
          let found = found_at grid e.step l in
          both_forward lent found e es l (found-tally velocities marks grid some false e l d)
          (same_forward lent found es (step_list_of false lent e l) (one-here e es d h) ∙ ap (chain_forward_of found es) (found-list velocities marks grid some false e l d))
          ∙ ap (λ (x : Lent). chain_forward_of x (e ∷ es) l) (sym (forward-here e es grid l d))
      by-test later false d =
          let before = step_list_of false nothing_lent e l in
          let found = found_forward grid es before in
          let here = same_list lent nothing_lent false e l d in
          both_forward lent found e es l (same-tally lent found false e l d)
          (ap (chain_forward_of lent es) here ∙ later before (one_later e es d h) ∙ ap (chain_forward_of found es) (same_list nothing_lent found false e l d))
          ∙ ap (λ (x : Lent). chain_forward_of x (e ∷ es) l) (sym (forward-later e es grid l d))

  found-inverse : (es : List Entry) (l : List Float) → at_most_one_deforms es ≡ true → chain_inverse_of lent es l ≡ chain_inverse_of (found_inverse grid es l) es l
  unfolding chain_inverse_of
  found-inverse [] l h = refl
  found-inverse (e ∷ es) l h = by-test (λ (o : at_most_one_deforms es ≡ true). found-inverse es l o) (is_deformation e.step) refl
    where
      by-test : (at_most_one_deforms es ≡ true → chain_inverse_of lent es l ≡ chain_inverse_of (found_inverse grid es l) es l) → (b : Bool) → is_deformation e.step ≡ b
          → chain_inverse_of lent (e ∷ es) l ≡ chain_inverse_of (found_inverse grid (e ∷ es) l) (e ∷ es) l
      by-test later true d =
          let run = chain_inverse_of lent es l in
          let there = found_at grid e.step run.list in
          let none = one-here e es d h in
          let same = ap (found_at grid e.step) (list_of (same_inverse lent nothing_lent es l none)) in
          both_inverse lent there e es l (same_inverse lent there es l none)
          (found-tally velocities marks grid some true e run.list d) (found-list velocities marks grid some true e run.list d)
          ∙ ap (λ (x : Lent). chain_inverse_of x (e ∷ es) l) (same ∙ sym (inverse-here e es grid l d))
      by-test later false d =
          let run = chain_inverse_of lent es l in
          let found = found_inverse grid es l in
          both_inverse lent found e es l (later (one_later e es d h)) (same-tally lent found true e run.list d) (same_list lent found true e run.list d)
          ∙ ap (λ (x : Lent). chain_inverse_of x (e ∷ es) l) (sym (inverse-later e es grid l d))

  -- in either direction
  pub grid-run-is-lent-run-of-a-chain : (inverse : Bool) (es : List Entry) (l : List Float) → at_most_one_deforms es ≡ true
      → chain_of inverse lent es l ≡ chain_of inverse (found_over inverse grid es l) es l
  grid-run-is-lent-run-of-a-chain true es l h = found-inverse es l h
  grid-run-is-lent-run-of-a-chain false es l h = found-forward es l h
