-- What is true of closures, for callers to cite: when which refusal is given, that a refused call
-- leaves report and room, that neither way of a closure is refused once its rules are tested, and
-- that calls one after another give the report of all their lists. Assumes nothing.
use mathlib.Core.Path.{◌≡◌, refl, sym, ap, ◌∙◌, subst}
use mathlib.Core.Logic.{◌↔◌}
use Prim.Native.Nat.{ℕ}
use mathlib.Core.List.{List, [], ◌∷◌, ◌++◌}
use native.Mathlib.Omega.{arith}
use lib.ListN.{length, take, drop, length-append, length-drop}
use lib.Seq.{take_at, drop_at}
use lib.Ieee.{Float}
use Rattle.sheet.specs.declared.Refusal.{Refusal}
use Rattle.sheet.specs.Given.{FirstBroken}
use Rattle.sheet.proofs.Laws.{first_broken_exactly_when}
use Rattle.profile.specs.Profile.{profile_refusal_of}
use Rattle.closure_report.specs.declared.Report.{Report}
use Rattle.closure_report.specs.Report.{added_of, rolled_of}
use Rattle.closure_run.specs.Closure.{there_and_back_of, closure_order, closure_refusal_of, closed_as, outcome, closure_of, Lent, closures_of, pairs_of, NoneRefused}
use Rattle.closure_run.proofs.Answers.{refused-own, back-length, closure-refused, closure-done, passed}

-- ---- which refusal is given when

module _ (profile : ℕ) (s : List ℕ) (list room : ℕ) (velocities : List Float) (marks : List ℕ) where
  -- a refusal is given exactly when its rule is broken and no rule before it is
  pub closure-gives-exactly-when : (r : Refusal) → (r.number ≡ 0 → ⊥)
      → (closure_refusal_of profile s list room velocities marks ≡ r) ↔ FirstBroken (closure_order profile s list room velocities marks) r
  unfolding closure_refusal_of
  closure-gives-exactly-when r h = first_broken_exactly_when (closure_order profile s list room velocities marks) r h

  -- what the sheet is refused by under the profile comes before 9, 10 and 15
  pub sheet-comes-first : ((profile_refusal_of profile s).number ≡ 0 → ⊥) → closure_refusal_of profile s list room velocities marks ≡ profile_refusal_of profile s
  sheet-comes-first h = refused-own profile s list room velocities marks (profile_refusal_of profile s) refl h

-- ---- what a call leaves

module _ (report : Report) (profile : ℕ) (s : List ℕ) (l room velocities : List Float) (marks : List ℕ) where
  abbrev refusal : Refusal
  refusal = closure_refusal_of profile s (length l) (length room) velocities marks

  -- on refusal the report and the room stay untouched
  pub refused-untouched : (refusal.number ≡ 0 → ⊥) → closure_of report profile s l room velocities marks ≡ outcome (closed_as refusal report) room
  refused-untouched h = sym (closure-refused report profile s l room velocities marks refusal refl h)

  module _ (done : refusal.number ≡ 0) where
    all : closure_of report profile s l room velocities marks
        ≡ outcome (closed_as refusal (added_of report l (there_and_back_of s velocities marks l))) (there_and_back_of s velocities marks l ++ drop (length l) room)
    all = sym (closure-done report profile s l room velocities marks refusal refl done _ _ refl refl)

    -- the report takes the list in
    pub list-is-added : (closure_of report profile s l room velocities marks).answer.report ≡ added_of report l (there_and_back_of s velocities marks l)
    list-is-added = rw all

    -- the list as it came back stands at the room's start, and nothing behind it is touched
    pub back-stands : take (length l) (closure_of report profile s l room velocities marks).room ≡ there_and_back_of s velocities marks l
    back-stands = rw all (take_at (there_and_back_of s velocities marks l) (drop (length l) room) (length l) (back-length s velocities marks l))

    pub behind-the-list : drop (length l) (closure_of report profile s l room velocities marks).room ≡ drop (length l) room
    behind-the-list = rw all (drop_at (there_and_back_of s velocities marks l) (drop (length l) room) (length l) (back-length s velocities marks l))

-- ---- many lists

room_length : (report : Report) (profile : ℕ) (s : List ℕ) (l room velocities : List Float) (marks : List ℕ)
    → (closure_refusal_of profile s (length l) (length room) velocities marks).number ≡ 0
    → length (closure_of report profile s l room velocities marks).room ≡ length room
room_length report profile s l room velocities marks done =
    let fits = (passed profile s (length l) (length room) velocities marks done).fits in
    let back = back-length s velocities marks l in
    rw (all report profile s l room velocities marks done) (simp (length-append, length-drop) (omega arith))

-- Calls one after another give the report of all their lists, rolled into the one that came in.
pub many_lists_are_the_single_ones_in_turn : (report : Report) (profile : ℕ) (s : List ℕ) (room : List Float) (xs : List Lent) → NoneRefused profile s (length room) xs
    → closures_of report profile s room xs ≡ rolled_of report (pairs_of s xs)
unfolding closures_of rolled_of pairs_of
many_lists_are_the_single_ones_in_turn report profile s room [] n = refl
many_lists_are_the_single_ones_in_turn report profile s room (x ∷ xs) (NoneRefused.next h n) =
    let one = closure_of report profile s x.list room x.velocities x.marks in
    many_lists_are_the_single_ones_in_turn one.answer.report profile s one.room xs
    (subst (λ (k : ℕ). NoneRefused profile s k xs) (sym (room_length report profile s x.list room x.velocities x.marks h)) n)
    ∙ ap (λ (r : Report). rolled_of r (pairs_of s xs)) (list-is-added report profile s x.list room x.velocities x.marks h)
