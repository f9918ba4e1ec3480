-- Demand 3, the number: if list, results and track came from a fresh run, then after a correction the
-- number of a fresh run over the corrected list is the sum of what stands before, in and after the
-- stretch. By the count over a list in three parts. Assumes nothing.
use Prim.Native.Nat.{ℕ, ◌+◌, ◌*◌, ◌≤◌}
use native.Mathlib.Omega.{arith}
use native.Mathlib.Nat.{add_assoc, zero-add}
use mathlib.Core.Path.{◌≡◌, refl, sym, ap, ◌∙◌}
use mathlib.Core.Bool.{Bool, false}
use mathlib.Core.List.{List, ◌++◌}
use lib.ListN.{length, take, drop, length-drop, take-append-drop}
use lib.Seq.{take-add, drop-drop, length-take-le}
use lib.Ieee.{Float}
use borrow.Author.Tests.{eq-eqb, not-false}
use Rattle.tuple.specs.declared.Tuple.{Tuple}
use Rattle.helmert.specs.declared.State.{State}
use Rattle.helmert.specs.Modes.{start_of}
use Rattle.lists.specs.Run.{Turns, count_of, state_after_of}
use Rattle.reach.proofs.Laws.{meeting-state}
use Rattle.plans.specs.Passes.{meets}
use Rattle.plans.proofs.Windows.{count_append, state_append}
use Rattle.stretch.specs.Kept.{Kept, before_of, put_fix}
use Rattle.stretch.proofs.Laws.{before-is}
use Rattle.kept.specs.Entries.{keep_refusal_of, refusal14, shift_in, reversed_in, keep_of, CorrectOutcome, outcome, correct_of}
use Rattle.kept.proofs.Answers.{below, not-refused}
use Rattle.kept.proofs.Promises.{keep-runs, keep_leaves_the_list, kept-passes, corrected-passes, corrected-is-kept-afresh}
use Rattle.kept_reach.proofs.Stretch.{number_is, stretch-fits, list-is, list-before}
use Rattle.kept_reach.specs.Reach.{pass_in, keep_tally_of, fixes_from, met_from, stretch_met_of}

-- ---- a count over a list in three parts

module _ (f : Turns State) (start : State) (l : List Float) (index n : ℕ) (h : 4 * (index + n) ≤ length l) where
  abbrev front : List Float
  front = take (4 * index) l

  abbrev middle : List Float
  middle = take (4 * n) (drop (4 * index) l)

  front_long : length front ≡ 4 * index
  front_long = length-take-le (4 * index) l (omega (arith, h))

  middle-long : length middle ≡ 4 * n
  middle-long = length-take-le (4 * n) (drop (4 * index) l) (rw (length-drop (4 * index) l) (omega (arith, h)))

  joined : take (4 * (index + n)) l ≡ front ++ middle
  joined = let four : 4 * (index + n) ≡ 4 * index + 4 * n = omega arith in rw four (take-add (4 * index) (4 * n) l)

  rest : drop (4 * n) (drop (4 * index) l) ≡ drop (4 * (index + n)) l
  rest = let four : 4 * (index + n) ≡ 4 * index + 4 * n = omega arith in rw four (drop-drop (4 * n) (4 * index) l)

  abbrev there : State
  there = state_after_of f 0 start front

  beyond : state_after_of f index there middle ≡ state_after_of f 0 start (take (4 * (index + n)) l)
  beyond = rw (joined, state_append f 0 start index front middle front_long, zero-add index)

  first : count_of f 0 start l ≡ count_of f 0 start front + count_of f index there (drop (4 * index) l)
  first =
      ap (count_of f 0 start) (sym (take-append-drop (4 * index) l))
      ∙ count_append f 0 start index front (drop (4 * index) l) front_long
      ∙ ap (λ (k : ℕ). count_of f 0 start front + count_of f k there (drop (4 * index) l)) (zero-add index)

  second : count_of f index there (drop (4 * index) l) ≡ count_of f index there middle + count_of f (index + n) (state_after_of f 0 start (take (4 * (index + n)) l)) (drop (4 * (index + n)) l)
  second =
      ap (count_of f index there) (sym (take-append-drop (4 * n) (drop (4 * index) l)))
      ∙ count_append f index there n middle (drop (4 * n) (drop (4 * index) l)) middle-long
      ∙ (λ i. count_of f index there middle + count_of f (index + n) (beyond i) (rest i))

  pub in_three : count_of f 0 start l
      ≡ count_of f 0 start front + count_of f index there middle + count_of f (index + n) (state_after_of f 0 start (take (4 * (index + n)) l)) (drop (4 * (index + n)) l)
  in_three = first ∙ ap (λ (m : ℕ). count_of f 0 start front + m) second ∙ sym (add_assoc (count_of f 0 start front) (count_of f index there middle) _)

-- ---- a correction of a kept run

module _ (inverse : Bool) (s : List ℕ) (old : Kept) (passes : (keep_refusal_of s old).number ≡ 0) (index : ℕ) (fix : Tuple) where
  abbrev was : Kept
  was = keep_of inverse s old

  abbrev out : CorrectOutcome
  out = correct_of inverse s was index fix

  -- the state that the fresh run over the corrected list carries to a fix
  abbrev carried : ℕ → State
  carried k = state_after_of (pass_in inverse s).turns 0 (start_of (shift_in s)) (take (4 * k) out.kept.list)

  -- a fresh run over the corrected list is taken
  pub afresh-passes : (keep_refusal_of s out.kept).number ≡ 0
  afresh-passes =
      ap (λ (k : Kept). (keep_refusal_of s k).number) (corrected-is-kept-afresh inverse s old passes index fix)
      ∙ kept-passes inverse s (put_fix old index fix) (corrected-passes inverse s old passes index fix)

  fresh-met : (keep_tally_of inverse s out.kept).met ≡ count_of (meets (pass_in inverse s)) 0 (start_of (shift_in s)) out.kept.list
  unfolding keep_tally_of
  fresh-met = rw (eq-eqb _ _ afresh-passes)

  module _ (fix-there : refusal14 (length was.list) index ≡ false) where
    abbrev n : ℕ
    n = out.answer.redone

    told : outcome out.answer out.kept ≡ correct_of inverse s was index fix
    told = refl

    took : out.answer.refusal.number ≡ 0
    unfolding refusal14
    took =
        number_is inverse s was index fix told
        ∙ not-refused inverse s was index fix (kept-passes inverse s old passes) (not-false _ fix-there)

    fits : 4 * (index + n) ≤ length out.kept.list
    fits = stretch-fits inverse s was index fix told took

    reaches : 4 * index ≤ length old.list
    reaches =
        let h = below (length was.list) index fix-there in
        omega (arith, h, ap length (keep_leaves_the_list inverse s old))

    -- the state before the stretch is the one that the fresh run carries there
    begins : state_after_of (meets (pass_in inverse s)) 0 (start_of (shift_in s)) (take (4 * index) out.kept.list) ≡ before_of (shift_in s) was.track index
    begins =
        meeting-state (pass_in inverse s).met (pass_in inverse s).turns 0 (start_of (shift_in s)) (take (4 * index) out.kept.list)
        ∙ ap (state_after_of (pass_in inverse s).turns 0 (start_of (shift_in s))) (list-before inverse s was index fix told took ∙ ap (take (4 * index)) (keep_leaves_the_list inverse s old))
        ∙ sym (before-is (shift_in s) (reversed_in inverse s) old.list index reaches)
        ∙ ap (λ (k : Kept). before_of (shift_in s) k.track index) (sym (keep-runs inverse s old passes))

    in-the-stretch : count_of (meets (pass_in inverse s)) index (state_after_of (meets (pass_in inverse s)) 0 (start_of (shift_in s)) (take (4 * index) out.kept.list)) (fixes_from out.kept.list index n)
        ≡ stretch_met_of inverse s was index fix
    unfolding stretch_met_of
    in-the-stretch =
        let l = list-is inverse s was index fix told took in
        λ i. count_of (meets (pass_in inverse s)) index (begins i) (fixes_from (l i) index n)

    -- Demand 3: the fresh run's number over the corrected list is the sum of what stands before, in
    -- and after the stretch.
    pub fresh-number-is-the-sum : (keep_tally_of inverse s out.kept).met
        ≡ met_from inverse s 0 (start_of (shift_in s)) (take (4 * index) out.kept.list)
        + stretch_met_of inverse s was index fix
        + met_from inverse s (index + n) (carried (index + n)) (drop (4 * (index + n)) out.kept.list)
    fresh-number-is-the-sum =
        let p = pass_in inverse s in
        let start = start_of (shift_in s) in
        let l = out.kept.list in
        let ends = meeting-state p.met p.turns 0 start (take (4 * (index + n)) l) in
        fresh-met
        ∙ in_three (meets p) start l index n fits
        ∙ (λ i. count_of (meets p) 0 start (take (4 * index) l) + in-the-stretch i + count_of (meets p) (index + n) (ends i) (drop (4 * (index + n)) l))
