-- Which refusal each test of a call with a grid leads to; that the chain runs both ways where the
-- rules are kept, since it leaves a list's length; and what a call then answers. Assumes nothing.
use mathlib.Core.Path.{◌≡◌, refl, sym, ap, ◌∙◌}
use Prim.Native.Nat.{ℕ, ◌≤◌}
use mathlib.Core.Bool.{Bool, true, false}
use mathlib.Core.List.{List, [], ◌∷◌, ◌++◌}
use native.Mathlib.Omega.{arith}
use borrow.Author.Tests.{eq-eqb, ne_eqb, ltb-false}
use lib.ListN.{length, drop}
use lib.Ieee.{Float}
use Rattle.sheet.specs.declared.Refusal.{Refusal}
use Rattle.sheet.specs.Rules.{Rule, rule, accepted, of_call, first_broken, refusal_of}
use Rattle.sheet.specs.Given.{Unbroken}
use Rattle.sheet.proofs.Order.{kept_then, broken_first, all_kept, none_broken, without_rule, without_append, Without, Numbered, kept_left, kept_right, kept_first, kept-rest}
use Rattle.profile.specs.Profile.{profile_order, profile_refusal_of}
use Rattle.profile.proofs.Laws.{numbered-order, passed-is-read}
use Rattle.grid_rules.specs.Rules.{refusal17, refusal18, check_grid_of, first_broken as first_of_grid}
use Rattle.plans.specs.Lent.{lent_of}
use Rattle.chain.specs.Chain.{chain_of}
use Rattle.chain.specs.Rules.{refusal9, Outcome as Shifted}
use Rattle.chain.specs.Grid.{refusal10_with_grid, shift_grid_of}
use Rattle.chain.proofs.Counts.{chain_length}
use Rattle.chain.proofs.Grid.{grid-run-through}
use Rattle.closure_report.specs.declared.Report.{Report}
use Rattle.closure_report.specs.Report.{added_of}
use Rattle.closure_run.specs.Closure.{steps_of, refusal15, closed_as, outcome}
use Rattle.closure_run.specs.Grid.{grid_there_and_back_of, closure_grid_order, closure_grid_refusal_of, closure_grid_of}

-- ---- the grid's own number among a call's rules

module _ (grid : List ℕ) where
  seventeen : refusal17 grid ≡ true → check_grid_of grid ≡ 17
  unfolding check_grid_of first_of_grid
  seventeen p = rw p

  eighteen : refusal17 grid ≡ false → refusal18 grid ≡ true → check_grid_of grid ≡ 18
  unfolding check_grid_of first_of_grid
  eighteen p q = rw (p, q)

  unbroken : refusal17 grid ≡ false → refusal18 grid ≡ false → check_grid_of grid ≡ 0
  unfolding check_grid_of first_of_grid
  unbroken p q = rw (p, q)

  module _ (rest : List Rule) where
    abbrev with-the-grid : List Rule
    with-the-grid = rule (of_call 17) (refusal17 grid) ∷ rule (of_call 18) (refusal18 grid) ∷ rest

    by-broken : (a b : Bool) → refusal17 grid ≡ a → refusal18 grid ≡ b → (check_grid_of grid ≡ 0 → ⊥) → first_broken with-the-grid ≡ of_call (check_grid_of grid)
    unfolding first_broken
    by-broken true b p q h = rw (p, seventeen p)
    by-broken false true p q h = rw (p, q, eighteen p q)
    by-broken false false p q h = absurd (h (unbroken p q))

    grid-broken : (check_grid_of grid ≡ 0 → ⊥) → first_broken with-the-grid ≡ of_call (check_grid_of grid)
    grid-broken h = by-broken _ _ refl refl h

    by-kept : (a b : Bool) → refusal17 grid ≡ a → refusal18 grid ≡ b → check_grid_of grid ≡ 0 → first_broken with-the-grid ≡ first_broken rest
    unfolding first_broken
    by-kept true b p q h = absurd (omega (arith, h, seventeen p))
    by-kept false true p q h = absurd (omega (arith, h, eighteen p q))
    by-kept false false p q h = rw (p, q)

    grid-kept : check_grid_of grid ≡ 0 → first_broken with-the-grid ≡ first_broken rest
    grid-kept h = by-kept _ _ refl refl h

-- ---- the order

module _ (profile : ℕ) (s : List ℕ) (list room : ℕ) (velocities : List Float) (marks grid : List ℕ) where
  abbrev given : Refusal
  given = closure_grid_refusal_of profile s list room velocities marks grid

  abbrev last : List Rule
  last = rule (of_call 15) (refusal15 list room) ∷ []

  abbrev after-ten : List Rule
  after-ten = rule (of_call 17) (refusal17 grid) ∷ rule (of_call 18) (refusal18 grid) ∷ last

  abbrev after-the-sheet : List Rule
  after-the-sheet = rule (of_call 9) (refusal9 list) ∷ rule (of_call 10) (refusal10_with_grid velocities marks) ∷ after-ten

  pub grid-refused-own : (own : Refusal) → own ≡ profile_refusal_of profile s → (own.number ≡ 0 → ⊥) → given ≡ own
  unfolding closure_grid_refusal_of closure_grid_order profile_refusal_of
  grid-refused-own own e h = broken_first (profile_order profile s) after-the-sheet (rw e at h) ∙ sym e

  module _ (own : Refusal) (is-own : own ≡ profile_refusal_of profile s) (kept : own.number ≡ 0) where
    left : given ≡ first_broken after-the-sheet
    unfolding closure_grid_refusal_of closure_grid_order profile_refusal_of
    left = kept_then (profile_order profile s) after-the-sheet (numbered-order s profile) (rw is-own at kept)

    pub grid-refused-9 : refusal9 list ≡ true → given ≡ of_call 9
    unfolding first_broken
    grid-refused-9 e = left ∙ rw e

    pub grid-refused-10 : refusal9 list ≡ false → refusal10_with_grid velocities marks ≡ true → given ≡ of_call 10
    unfolding first_broken
    grid-refused-10 e f = left ∙ rw (e, f)

    module _ (e : refusal9 list ≡ false) (f : refusal10_with_grid velocities marks ≡ false) where
      left-ten : given ≡ first_broken after-ten
      unfolding first_broken
      left-ten = left ∙ rw (e, f)

      pub grid-refused : (check_grid_of grid ≡ 0 → ⊥) → given ≡ of_call (check_grid_of grid)
      grid-refused h = left-ten ∙ grid-broken grid last h

      pub grid-refused-15 : check_grid_of grid ≡ 0 → refusal15 list room ≡ true → given ≡ of_call 15
      unfolding first_broken
      grid-refused-15 h g = left-ten ∙ grid-kept grid last h ∙ rw g

      pub grid-not-refused : check_grid_of grid ≡ 0 → refusal15 list room ≡ false → given ≡ accepted
      unfolding first_broken
      grid-not-refused h g = left-ten ∙ grid-kept grid last h ∙ rw g

  numbered : Numbered (closure_grid_order profile s list room velocities marks grid)
  unfolding closure_grid_order
  numbered =
      without_append {l = profile_order profile s} (numbered-order s profile)
      (without_rule 9 (λ e. omega arith)
      (without_rule 10 (λ e. omega arith)
      (without_rule 17 (λ e. omega arith) (without_rule 18 (λ e. omega arith) (without_rule 15 (λ e. omega arith) Without.none)))))

  own_kept : Unbroken (profile_order profile s) → (profile_refusal_of profile s).number ≡ 0
  unfolding profile_refusal_of
  own_kept k = ap (λ (r : Refusal). r.number) (none_broken (profile_order profile s) k)

  -- what holds where nothing is refused
  pub record Passed : Type 0 where
    pub is_read : (refusal_of s).number ≡ 0
    pub kept9 : refusal9 list ≡ false
    pub kept10 : refusal10_with_grid velocities marks ≡ false
    pub kept-grid : check_grid_of grid ≡ 0
    pub fits : list ≤ room

  pub grid-passed : given.number ≡ 0 → Passed
  unfolding closure_grid_refusal_of closure_grid_order refusal15
  grid-passed z =
      let all = all_kept (closure_grid_order profile s list room velocities marks grid) numbered z in
      let rest = kept_right (profile_order profile s) after-the-sheet all in
      let after = kept-rest (kept-rest rest) in
      record {
        is_read = passed-is-read s profile (own_kept (kept_left (profile_order profile s) after-the-sheet all));
        kept9 = kept_first rest;
        kept10 = kept_first (kept-rest rest);
        kept-grid = unbroken grid (kept_first after) (kept_first (kept-rest after));
        fits = ltb-false room list (kept_first (kept-rest (kept-rest after)));
      }

-- ---- there and back

-- the list that came back is as long
pub grid_back_length : (s : List ℕ) (velocities : List Float) (marks grid : List ℕ) (l : List Float) → length (grid_there_and_back_of s velocities marks grid l) ≡ length l
unfolding grid_there_and_back_of
grid_back_length s velocities marks grid l =
    let lent = lent_of velocities marks grid in
    chain_length lent true (steps_of s) (chain_of false lent (steps_of s) l).list ∙ chain_length lent false (steps_of s) l

module _ (s : List ℕ) (velocities : List Float) (marks grid : List ℕ) (l : List Float) (is_read : (refusal_of s).number ≡ 0) (kept9 : refusal9 (length l) ≡ false)
    (kept10 : refusal10_with_grid velocities marks ≡ false) (kept-grid : check_grid_of grid ≡ 0) where
  -- where the rules are kept a shift runs
  runs : (inverse : Bool) (l' : List Float) → l' ≡ (shift_grid_of inverse s l velocities marks grid).list → l' ≡ (chain_of inverse (lent_of velocities marks grid) (steps_of s) l).list
  unfolding shift_grid_of
  runs inverse l' e =
      e ∙ ap (λ (o : Shifted). o.list) (grid-run-through (refusal_of s) inverse (steps_of s) l velocities marks grid is_read kept9 kept10 kept-grid)

module _ (s : List ℕ) (velocities : List Float) (marks grid : List ℕ) (l : List Float) (is_read : (refusal_of s).number ≡ 0) (kept9 : refusal9 (length l) ≡ false)
    (kept10 : refusal10_with_grid velocities marks ≡ false) (kept-grid : check_grid_of grid ≡ 0) where
  -- one shift and then the other
  pub grid-both-run : (l' l'' : List Float) → l' ≡ (shift_grid_of false s l velocities marks grid).list → l'' ≡ (shift_grid_of true s l' velocities marks grid).list
      → l'' ≡ grid_there_and_back_of s velocities marks grid l
  unfolding grid_there_and_back_of
  grid-both-run l' l'' e f =
      let lent = lent_of velocities marks grid in
      let there : l' ≡ (chain_of false lent (steps_of s) l).list = runs s velocities marks grid l is_read kept9 kept10 kept-grid false l' e in
      let same : length l' ≡ length l = ap length there ∙ chain_length lent false (steps_of s) l in
      runs s velocities marks grid l' is_read (rw same kept9) kept10 kept-grid true l'' f
      ∙ ap (λ (k : List Float). (chain_of true lent (steps_of s) k).list) there

-- ---- the answer

module _ (report : Report) (profile : ℕ) (s : List ℕ) (l room velocities : List Float) (marks grid : List ℕ) (r : Refusal)
    (is : r ≡ closure_grid_refusal_of profile s (length l) (length room) velocities marks grid) where
  pub grid-closure-refused : (r.number ≡ 0 → ⊥) → outcome (closed_as r report) room ≡ closure_grid_of report profile s l room velocities marks grid
  unfolding closure_grid_of
  grid-closure-refused h = rw (← is, ne_eqb r.number 0 h)

  pub grid-closure-done : r.number ≡ 0 → (added : Report) (back : List Float) → back ≡ grid_there_and_back_of s velocities marks grid l
      → added ≡ added_of report l (grid_there_and_back_of s velocities marks grid l)
      → outcome (closed_as r added) (back ++ drop (length l) room) ≡ closure_grid_of report profile s l room velocities marks grid
  unfolding closure_grid_of
  grid-closure-done h added back e f =
      rw (← is, eq-eqb r.number 0 h, e, f, grid_back_length s velocities marks grid l)
