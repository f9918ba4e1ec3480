-- Which refusal each of a call's tests leads to; that the chain runs both ways where the rules are
-- kept, since it leaves a list's length; and what a call then answers. Assumes nothing.
use mathlib.Core.Path.{◌≡◌, refl, sym, ap, ◌∙◌}
use Prim.Native.Nat.{ℕ, ◌≤◌}
use mathlib.Core.Bool.{Bool, true, false}
use mathlib.Core.List.{List, [], ◌∷◌, ◌++◌}
use native.Mathlib.Omega.{arith}
use borrow.Author.Tests.{eq-eqb, ne_eqb, ltb-false}
use lib.ListN.{length, drop}
use lib.Ieee.{Float}
use Rattle.sheet.specs.declared.Refusal.{Refusal}
use Rattle.sheet.specs.Layout.{step_count_of, kind_at}
use Rattle.sheet.specs.Rules.{Rule, rule, accepted, of_call, first_broken, has_deformation, refusal_of}
use Rattle.std.specs.Prelude.{Result, Ok, Err}
use Rattle.sheet.specs.Given.{Unbroken}
use Rattle.sheet.proofs.Unless.{accepts, refuses}
use Rattle.sheet.proofs.Order.{kept_then, broken_first, all_kept, none_broken, without_rule, without_append, Without, Numbered, kept_left, kept_right, kept_first, kept-rest}
use Rattle.profile.specs.Profile.{profile_order, profile_refusal_of}
use Rattle.profile.proofs.Laws.{numbered-order, passed-is-read}
use Rattle.plans.specs.Lent.{lent_of}
use Rattle.chain.specs.Chain.{chain_of}
use Rattle.chain.specs.Rules.{refusal9, refusal10, shift_of, Outcome as Shifted}
use Rattle.chain.proofs.Counts.{chain_length}
use Rattle.chain.proofs.Outcome.{run-through}
use Rattle.closure_report.specs.declared.Report.{Report}
use Rattle.closure_report.specs.Report.{added_of}
use Rattle.closure_run.specs.Closure.{steps_of, there_and_back_of, refusal15, closure_order, closure_refusal_of, Outcome, handed_out, closed_as, outcome, closure_of}

-- ---- the order

module _ (profile : ℕ) (s : List ℕ) (list room : ℕ) (velocities : List Float) (marks : List ℕ) where
  abbrev broken10 : Bool
  broken10 = refusal10 (has_deformation (kind_at s) (step_count_of s)) list velocities marks

  abbrev after-the-sheet : List Rule
  after-the-sheet = rule (of_call 9) (refusal9 list) ∷ rule (of_call 10) broken10 ∷ rule (of_call 15) (refusal15 list room) ∷ []

  pub refused-own : (own : Refusal) → own ≡ profile_refusal_of profile s → (own.number ≡ 0 → ⊥) → closure_refusal_of profile s list room velocities marks ≡ own
  unfolding closure_refusal_of closure_order profile_refusal_of
  refused-own own e h = broken_first (profile_order profile s) after-the-sheet (rw e at h) ∙ sym e

  module _ (own : Refusal) (is-own : own ≡ profile_refusal_of profile s) (kept : own.number ≡ 0) where
    left : closure_refusal_of profile s list room velocities marks ≡ first_broken after-the-sheet
    unfolding closure_refusal_of closure_order profile_refusal_of
    left = kept_then (profile_order profile s) after-the-sheet (numbered-order s profile) (rw is-own at kept)

    pub refused-9 : refusal9 list ≡ true → closure_refusal_of profile s list room velocities marks ≡ of_call 9
    unfolding first_broken
    refused-9 e = left ∙ rw e

    pub refused-10 : refusal9 list ≡ false → broken10 ≡ true → closure_refusal_of profile s list room velocities marks ≡ of_call 10
    unfolding first_broken
    refused-10 e f = left ∙ rw (e, f)

    pub refused-15 : refusal9 list ≡ false → broken10 ≡ false → refusal15 list room ≡ true → closure_refusal_of profile s list room velocities marks ≡ of_call 15
    unfolding first_broken
    refused-15 e f g = left ∙ rw (e, f, g)

    pub not-refused : refusal9 list ≡ false → broken10 ≡ false → refusal15 list room ≡ false → closure_refusal_of profile s list room velocities marks ≡ accepted
    unfolding first_broken
    not-refused e f g = left ∙ rw (e, f, g)

  numbered : Numbered (closure_order profile s list room velocities marks)
  unfolding closure_order
  numbered =
      without_append {l = profile_order profile s} (numbered-order s profile)
      (without_rule 9 (λ e. omega arith) (without_rule 10 (λ e. omega arith) (without_rule 15 (λ e. omega arith) Without.none)))

  own_kept : Unbroken (profile_order profile s) → (profile_refusal_of profile s).number ≡ 0
  unfolding profile_refusal_of
  own_kept k = ap (λ (r : Refusal). r.number) (none_broken (profile_order profile s) k)

  -- what holds where nothing is refused
  pub record Passed : Type 0 where
    pub is_read : (refusal_of s).number ≡ 0
    pub kept9 : refusal9 list ≡ false
    pub kept10 : broken10 ≡ false
    pub fits : list ≤ room

  pub passed : (closure_refusal_of profile s list room velocities marks).number ≡ 0 → Passed
  unfolding closure_refusal_of closure_order refusal15
  passed z =
      let all = all_kept (closure_order profile s list room velocities marks) numbered z in
      let rest = kept_right (profile_order profile s) after-the-sheet all in
      record {
        is_read = passed-is-read s profile (own_kept (kept_left (profile_order profile s) after-the-sheet all));
        kept9 = kept_first rest;
        kept10 = kept_first (kept-rest rest);
        fits = ltb-false room list (kept_first (kept-rest (kept-rest rest)));
      }

-- ---- there and back

-- the list that came back is as long
pub back-length : (s : List ℕ) (velocities : List Float) (marks : List ℕ) (l : List Float) → length (there_and_back_of s velocities marks l) ≡ length l
unfolding there_and_back_of
back-length s velocities marks l =
    let lent = lent_of velocities marks [] in
    chain_length lent true (steps_of s) (chain_of false lent (steps_of s) l).list ∙ chain_length lent false (steps_of s) l

module _ (s : List ℕ) (velocities : List Float) (marks : List ℕ) (l : List Float) (is_read : (refusal_of s).number ≡ 0) (kept9 : refusal9 (length l) ≡ false)
    (kept10 : refusal10 (has_deformation (kind_at s) (step_count_of s)) (length l) velocities marks ≡ false) where
  -- where the rules are kept a shift runs
  runs : (inverse : Bool) (l' : List Float) → l' ≡ (shift_of inverse s l velocities marks).list → l' ≡ (chain_of inverse (lent_of velocities marks []) (steps_of s) l).list
  unfolding shift_of
  runs inverse l' e =
      e
      ∙ ap (λ (o : Shifted). o.list)
      (run-through (refusal_of s) (has_deformation (kind_at s) (step_count_of s)) inverse (steps_of s) l velocities marks is_read kept9 kept10)

module _ (s : List ℕ) (velocities : List Float) (marks : List ℕ) (l : List Float) (is_read : (refusal_of s).number ≡ 0) (kept9 : refusal9 (length l) ≡ false)
    (kept10 : refusal10 (has_deformation (kind_at s) (step_count_of s)) (length l) velocities marks ≡ false) where
  -- one shift and then the other
  pub both_run : (l' l'' : List Float) → l' ≡ (shift_of false s l velocities marks).list → l'' ≡ (shift_of true s l' velocities marks).list
      → l'' ≡ there_and_back_of s velocities marks l
  unfolding there_and_back_of
  both_run l' l'' e f =
      let lent = lent_of velocities marks [] in
      let there : l' ≡ (chain_of false lent (steps_of s) l).list = runs s velocities marks l is_read kept9 kept10 false l' e in
      let same : length l' ≡ length l = ap length there ∙ chain_length lent false (steps_of s) l in
      runs s velocities marks l' is_read (rw same kept9) (rw same kept10) true l'' f
      ∙ ap (λ (k : List Float). (chain_of true lent (steps_of s) k).list) there

-- ---- the answer

-- what a function hands out of an outcome, and the room that it leaves
abbrev pub Told : Result Report Refusal → List Float → Outcome → Type 0
Told result room o = (result ≡ handed_out o.answer) × (room ≡ o.room)

pub told_refused : {result : Result Report Refusal} {room : List Float} {o : Outcome} (r : Refusal) (report : Report) → outcome (closed_as r report) room ≡ o
    → (r.number ≡ 0 → ⊥) → result ≡ Err r → Told result room o
told_refused r report e h p = rw (← e) (p ∙ sym (refuses r report h), refl)

pub told_done : {room : List Float} {o : Outcome} (r : Refusal) (report : Report) → outcome (closed_as r report) room ≡ o → r.number ≡ 0 → Told (Ok report) room o
told_done r report e h = rw (← e) (sym (accepts r report h), refl)

module _ (report : Report) (profile : ℕ) (s : List ℕ) (l room velocities : List Float) (marks : List ℕ) (r : Refusal)
    (is : r ≡ closure_refusal_of profile s (length l) (length room) velocities marks) where
  pub closure-refused : (r.number ≡ 0 → ⊥) → outcome (closed_as r report) room ≡ closure_of report profile s l room velocities marks
  unfolding closure_of
  closure-refused h = rw (← is, ne_eqb r.number 0 h)

  pub closure-done : r.number ≡ 0 → (added : Report) (back : List Float) → back ≡ there_and_back_of s velocities marks l → added ≡ added_of report l (there_and_back_of s velocities marks l)
      → outcome (closed_as r added) (back ++ drop (length l) room) ≡ closure_of report profile s l room velocities marks
  unfolding closure_of
  closure-done h added back e f =
      rw (← is, eq-eqb r.number 0 h, e, f, back-length s velocities marks l)
