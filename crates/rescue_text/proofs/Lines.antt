-- The lines of changes as they stand in a list: a turn of the loop, and that they are the lines of
-- the changes that were listed; and how far a rescue that is accepted reaches into room and list.
-- Assumes nothing.
use mathlib.Core.Path.{◌≡◌, refl, sym, ap, ◌∙◌}
use Prim.Native.Nat.{ℕ, suc, ◌+◌, ◌*◌, ◌≤◌}
use mathlib.Core.Bool.{Bool, true, false, cond}
use mathlib.Core.List.{List, [], ◌∷◌, ◌++◌}
use native.Mathlib.Omega.{arith}
use native.Mathlib.Nat.{add-zero}
use borrow.Author.Tests.{ltb-false}
use lib.Dec.{eqb, ltb}
use lib.ListN.{length, get_or, take, drop, take-append-drop}
use lib.Seq.{get_or-drop, drop-drop}
use Rattle.sheet.proofs.Order.{neither}
use Rattle.rescue.specs.Changes.{Change, change_of, changes_of, list_of}
use Rattle.sheet.specs.declared.Refusal.{Refusal}
use Rattle.rescue.specs.Rules.{refusal15, rescue_refusal_of, rescued_as, outcome, rescue_of}
use Rattle.rescue.proofs.Laws.{reader-exactly-when}
use Rattle.rescue_text.specs.RescueText.{change_line, change_lines, lines_from}

pub next_line : (list : List ℕ) (n k at : ℕ) → n ≡ suc k
    → lines_from list n at ≡ change_line (change_of (get_or list at 0) (get_or list (at + 1) 0) (get_or list (at + 2) 0)) ++ lines_from list k (at + 3)
unfolding lines_from
next_line list n k at e = rw e

pub no_line : (list : List ℕ) (n at : ℕ) → n ≡ 0 → lines_from list n at ≡ []
unfolding lines_from
no_line list n at e = rw e

abbrev line : ℕ → ℕ → ℕ → List ℕ
line place old new = change_line (change_of place old new)

lines_at : (list : List ℕ) (cs : List Change) (rest : List ℕ) (at : ℕ) → drop at list ≡ list_of cs ++ rest → lines_from list (length cs) at ≡ change_lines cs
unfolding lines_from change_lines list_of
lines_at list [] rest at e = refl
lines_at list (c ∷ cs) rest at e =
    let place : get_or list (at + 0) 0 ≡ c.place = sym (get_or-drop at list 0 0) ∙ ap (λ (l : List ℕ). get_or l 0 0) e in
    let old : get_or list (at + 1) 0 ≡ c.old = sym (get_or-drop at list 1 0) ∙ ap (λ (l : List ℕ). get_or l 1 0) e in
    let new : get_or list (at + 2) 0 ≡ c.new = sym (get_or-drop at list 2 0) ∙ ap (λ (l : List ℕ). get_or l 2 0) e in
    let more : drop (at + 3) list ≡ list_of cs ++ rest = sym (drop-drop 3 at list) ∙ ap (drop 3) e in
    let here : get_or list at 0 ≡ c.place = ap (λ (k : ℕ). get_or list k 0) (sym (add-zero at)) ∙ place in
    ap (λ (k : ℕ). line k (get_or list (at + 1) 0) (get_or list (at + 2) 0) ++ lines_from list (length cs) (at + 3)) here
    ∙ ap (λ (k : ℕ). line c.place k (get_or list (at + 2) 0) ++ lines_from list (length cs) (at + 3)) old
    ∙ ap (λ (k : ℕ). line c.place c.old k ++ lines_from list (length cs) (at + 3)) new
    ∙ ap (λ (l : List ℕ). change_line c ++ l) (lines_at list cs rest (at + 3) more)

-- the lines of a list that begins with the changes
pub lines_are : (list : List ℕ) (cs : List Change) → take (3 * length cs) list ≡ list_of cs → lines_from list (length cs) 0 ≡ change_lines cs
lines_are list cs e =
    lines_at list cs (drop (3 * length cs) list) 0 (sym (take-append-drop (3 * length cs) list) ∙ ap (λ (l : List ℕ). l ++ drop (3 * length cs) list) e)

-- a rescue that is accepted has room for the sheet and for its changes
module _ (s : List ℕ) (room list : ℕ) (done : (rescue_refusal_of s room list).number ≡ 0) where
  kept : refusal15 s room list ≡ false
  kept = ((reader-exactly-when s room list 0 (λ z. omega (arith, z)) (λ z. omega (arith, z))).0 done).1.0

  pub room-holds : length s ≤ room
  unfolding refusal15
  room-holds = ltb-false room (length s) (neither (ltb room (length s)) (ltb list (3 * length (changes_of s))) kept).0

  pub list-holds : 3 * length (changes_of s) ≤ list
  unfolding refusal15
  list-holds = ltb-false list (3 * length (changes_of s)) (neither (ltb room (length s)) (ltb list (3 * length (changes_of s))) kept).1

-- the refusal that a rescue answers with
either_way : (b : Bool) (r : Refusal) (n : ℕ) (p q p' q' : List ℕ) → (cond b (outcome (rescued_as r n) p q) (outcome (rescued_as r 0) p' q')).answer.refusal ≡ r
either_way true r n p q p' q' = refl
either_way false r n p q p' q' = refl

pub answered : (s room list : List ℕ) → (rescue_of s room list).answer.refusal ≡ rescue_refusal_of s (length room) (length list)
unfolding rescue_of
answered s room list =
    either_way (eqb (rescue_refusal_of s (length room) (length list)).number 0) (rescue_refusal_of s (length room) (length list)) _ _ _ room list
