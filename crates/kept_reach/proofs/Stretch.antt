-- After a correction that was taken: what it left says where its stretch lies and in which state it
-- begins. The state before the index is the one that stood there, since the track before the index
-- is not written. A refused correction redoes no fix. Assumes nothing.
use Prim.Native.Nat.{ℕ, zero, suc, ◌+◌, ◌*◌, ◌-◌, ◌/◌, ◌≤◌}
use native.Mathlib.Omega.{arith}
use mathlib.Core.Path.{◌≡◌, refl, sym, ap, ◌∙◌}
use mathlib.Core.Bool.{Bool, true, false, cond}
use mathlib.Core.List.{List}
use lib.Dec.{eqb}
use lib.ListN.{length, take, drop}
use lib.Seq.{get_or-take, length-take-le}
use lib.Ieee.{Float, nan}
use borrow.Author.Tests.{eq-eqb, ne_eqb, le-leb}
use Rattle.tuple.specs.declared.Tuple.{Tuple}
use Rattle.helmert.specs.declared.Shift.{Shift}
use Rattle.lists.specs.Flat.{tuple_at, put_at}
use Rattle.lists.specs.Run.{count_of}
use Rattle.sheet.specs.declared.Refusal.{Refusal}
use Rattle.plans.specs.Passes.{meets, tally_of}
use Rattle.stretch.specs.Kept.{Kept, Redone, before_of, redo_of, corrected_of}
use Rattle.stretch.specs.Unwritten.{Unwritten}
use Rattle.stretch.proofs.Laws.{redone_is_the_stretch, track-outside, list-outside}
use Rattle.std.specs.Prelude.{Ok}
use Rattle.sheet.proofs.Unless.{accepts}
use Rattle.kept.specs.Entries.{Corrected, correct_refusal_of, keep_refusal_of, shift_in, reversed_in, CorrectOutcome, outcome, corrected_as, correct_of}
use Rattle.kept.proofs.Answers.{Passed, passed, below, taken}
use Rattle.kept_reach.specs.Reach.{reached, told_in, pass_in, fixes_from, met_from, stretch_met_of, time_pass}
use Rattle.kept_reach.proofs.Along.{by-times-met}

-- ---- the state before an index goes by the track before it

pub tuple_in_front : (l : List Float) (n at : ℕ) → at + 4 ≤ n → n ≤ length l → tuple_at (take n l) at ≡ tuple_at l at
unfolding tuple_at
tuple_in_front l n at h k =
    let long : length (take n l) ≡ n = length-take-le n l k in
    rw (
      le-leb (at + 4) (length (take n l)) (omega (arith, long, h)),
      le-leb (at + 4) (length l) (omega (arith, h, k)),
      get_or-take n l at nan (omega (arith, h)),
      get_or-take n l (at + 1) nan (omega (arith, h)),
      get_or-take n l (at + 2) nan (omega (arith, h)),
      get_or-take n l (at + 3) nan (omega (arith, h)),
    )

before_by : (shift : Shift) (a b : List Float) (index : ℕ) → 4 * index ≤ length a → 4 * index ≤ length b → take (4 * index) a ≡ take (4 * index) b
    → before_of shift a index ≡ before_of shift b index
unfolding before_of
before_by shift a b zero h k e = refl
before_by shift a b (suc k) ha hb e =
    let there : tuple_at a (4 * k) ≡ tuple_at b (4 * k) =
    sym (tuple_in_front a (4 * suc k) (4 * k) (omega arith) ha) ∙ ap (λ (l : List Float). tuple_at l (4 * k)) e ∙ tuple_in_front b (4 * suc k) (4 * k) (omega arith) hb in
    rw there

-- ---- what a correction answered and left

module _ (inverse : Bool) (s : List ℕ) (old : Kept) (index : ℕ) (fix : Tuple) where
  abbrev shift : Shift
  shift = shift_in s

  abbrev reversed : Bool
  reversed = reversed_in inverse s

  abbrev refusal : Refusal
  refusal = correct_refusal_of s old index

  abbrev made : Redone
  made = corrected_of shift reversed old index fix

  abbrev by-test : Bool → CorrectOutcome
  by-test b = cond b (outcome (corrected_as refusal made.count) made.kept) (outcome (corrected_as refusal 0) old)

  answered : correct_of inverse s old index fix ≡ by-test (eqb refusal.number 0)
  unfolding correct_of
  answered = refl

  either-refusal : (b : Bool) → (by-test b).answer.refusal.number ≡ refusal.number
  either-refusal true = refl
  either-refusal false = refl

  module _ {done : Corrected} {new : Kept} (e : outcome done new ≡ correct_of inverse s old index fix) where
    pub number_is : done.refusal.number ≡ refusal.number
    number_is = ap (λ (o : CorrectOutcome). o.answer.refusal.number) (e ∙ answered) ∙ either-refusal (eqb refusal.number 0)

    redone-told : (correct_of inverse s old index fix).answer.redone ≡ done.redone
    redone-told = sym (ap (λ (o : CorrectOutcome). o.answer.redone) e)

    pub refused-met : (done.refusal.number ≡ 0 → ⊥) → 0 ≡ stretch_met_of inverse s old index fix
    unfolding stretch_met_of
    refused-met h =
        let test : eqb refusal.number 0 ≡ false = ne_eqb _ _ (λ z. h (number_is ∙ z)) in
        let none : (correct_of inverse s old index fix).answer.redone ≡ 0 = ap (λ (o : CorrectOutcome). o.answer.redone) (answered ∙ ap by-test test) in
        sym (ap (λ (n : ℕ). met_from inverse s index (before_of shift old.track index) (fixes_from (put_at old.list (4 * index) fix) index n)) none)

    module _ (h : done.refusal.number ≡ 0) where
      none : refusal.number ≡ 0
      none = sym number_is ∙ h

      is : outcome done new ≡ by-test true
      is = e ∙ answered ∙ ap by-test (eq-eqb _ _ none)

      redone-is : done.redone ≡ made.count
      redone-is = ap (λ (o : CorrectOutcome). o.answer.redone) is

      kept-is : new ≡ made.kept
      kept-is = ap (λ (o : CorrectOutcome). o.kept) is

      lists : Passed s (length old.list) (length old.results) (length old.track)
      unfolding keep_refusal_of
      lists = passed _ _ _ _ (taken inverse s old index fix none).0

      there : 4 * index + 4 ≤ length old.list
      there = let h = below (length old.list) index (taken inverse s old index fix none).1 in omega (arith, h)

      within : index + made.count ≤ length old.list / 4
      within = (redone_is_the_stretch shift reversed old index fix there).within

      track-left : Unwritten old.track made.kept.track (4 * index) (4 * index + 4 * made.count)
      track-left = track-outside shift reversed old index fix there lists.long-results lists.long-track

      list_left : Unwritten old.list made.kept.list (4 * index) (4 * index + 4)
      list_left = list-outside shift reversed old index fix there lists.long-results lists.long-track

      -- the stretch lies in the list, and the state before it in the track
      pub stretch-fits : 4 * (index + done.redone) ≤ length new.list
      stretch-fits = omega (arith, within, redone-is, ap (λ (k : Kept). length k.list) kept-is, list_left.long)

      pub stretch-small : 4 * (index + done.redone) ≤ 8192
      stretch-small = omega (arith, within, redone-is, lists.few)

      track-reaches : 4 * index ≤ length new.track
      track-reaches = omega (arith, there, ap (λ (k : Kept). length k.track) kept-is, track-left.long, lists.long-track)

      pub list-is : new.list ≡ put_at old.list (4 * index) fix
      unfolding corrected_of redo_of
      list-is = ap (λ (k : Kept). k.list) kept-is

      pub list-before : take (4 * index) new.list ≡ take (4 * index) old.list
      list-before = ap (λ (k : Kept). take (4 * index) k.list) kept-is ∙ list_left.before

      before-is : before_of shift new.track index ≡ before_of shift old.track index
      before-is =
          before_by shift new.track old.track index track-reaches (omega (arith, there, lists.long-track))
          (ap (λ (k : Kept). take (4 * index) k.track) kept-is ∙ track-left.before)

      abbrev part : List Float
      part = take (4 * (index + done.redone) - 4 * index) (drop (4 * index) new.list)

      part-is : part ≡ fixes_from (put_at old.list (4 * index) fix) index (correct_of inverse s old index fix).answer.redone
      part-is =
          let size : 4 * (index + done.redone) - 4 * index ≡ 4 * done.redone = omega arith in
          rw (size, redone-told) (ap (λ (l : List Float). take (4 * done.redone) (drop (4 * index) l)) list-is)

      -- what the pass finds in the stretch, from what the track holds before it
      pub stretch-met : {n : ℕ} → n ≡ (tally_of (time_pass shift) 0 (before_of shift new.track index) part).met → n ≡ stretch_met_of inverse s old index fix
      unfolding stretch_met_of
      stretch-met en =
          en ∙ by-times-met reversed shift 0 index (before_of shift new.track index) part ∙ (λ i. count_of (meets (pass_in inverse s)) index (before-is i) (part-is i))

-- what is handed out of a correction that is not refused
pub told-is : {n met : ℕ} (answer : Corrected) (m : ℕ) → answer.refusal.number ≡ 0 → n ≡ answer.redone → met ≡ m → Ok (reached n met) ≡ told_in answer m
told-is answer m none en em = rw (en, em) (sym (accepts answer.refusal (reached answer.redone m) none))
