-- Which outcome the refusal of a call leads to, and what a function hands out of it. Assumes nothing.
use Prim.Native.Nat.{ℕ, ◌*◌, ◌/◌, ◌%◌, ◌≤◌}
use native.Mathlib.Omega.{arith}
use mathlib.Core.Path.{◌≡◌, refl, sym, ap, ◌∙◌}
use mathlib.Core.Bool.{Bool, true, false, not, cond, true≢false}
use mathlib.Core.List.{List, []}
use borrow.Author.Tests.{eq-eqb, ne_eqb, eqb-true, ltb-false, not-false}
use lib.Dec.{eqb, ltb}
use lib.ListN.{length}
use lib.Ieee.{Float}
use Rattle.sheet.specs.declared.Entry.{Entry}
use Rattle.sheet.specs.declared.Refusal.{Refusal}
use Rattle.std.specs.Prelude.{Result, Ok, Err}
use Rattle.sheet.specs.Rules.{accepted, of_call, first_broken, unless}
use Rattle.sheet.proofs.Order.{neither, not_zero}
use Rattle.sheet.proofs.Unless.{refuses}
use Rattle.tally.specs.declared.Tally.{Tally}
use Rattle.plans.specs.Lent.{lent_of}
use Rattle.chain.specs.Chain.{Run, chain_of, places_of}
use Rattle.chain.specs.Rules.{refusal9, refusal10, shift_refusal_of, call_refusal_of, Outcome, outcome, handed_out, refused_answer, ran_answer, ran_outcome, outcome_of}

-- rule 9 kept: whole tuples, at most 2,048
pub flat_nine_kept : (numbers : ℕ) → refusal9 numbers ≡ false → (numbers % 4 ≡ 0) × (numbers ≤ 8192)
unfolding refusal9
flat_nine_kept numbers e =
    let k = neither (not (eqb (numbers % 4) 0)) (ltb 8192 numbers) e in
    (eqb-true (numbers % 4) 0 (not-false _ k.0), ltb-false 8192 numbers k.1)

-- ---- which outcome each test leads to

module _ (own : Refusal) (deforms inverse : Bool) (es : List Entry) (l velocities : List Float) (marks : List ℕ) where
  pub refused-own : (own.number ≡ 0 → ⊥) → outcome_of own deforms inverse es l velocities marks ≡ outcome (refused_answer own) l
  unfolding outcome_of shift_refusal_of first_broken
  refused-own h = rw (ne_eqb own.number 0 h, ne_eqb own.number 0 h)

  pub refused-9 : own.number ≡ 0 → refusal9 (length l) ≡ true → outcome_of own deforms inverse es l velocities marks ≡ outcome (refused_answer (of_call 9)) l
  unfolding outcome_of shift_refusal_of first_broken
  refused-9 h nine = rw (eq-eqb own.number 0 h, nine)

  pub refused-10 : own.number ≡ 0 → refusal9 (length l) ≡ false → refusal10 deforms (length l) velocities marks ≡ true
      → outcome_of own deforms inverse es l velocities marks ≡ outcome (refused_answer (of_call 10)) l
  unfolding outcome_of shift_refusal_of first_broken
  refused-10 h nine ten = rw (eq-eqb own.number 0 h, nine, ten)

  pub run-through : own.number ≡ 0 → refusal9 (length l) ≡ false → refusal10 deforms (length l) velocities marks ≡ false
      → outcome_of own deforms inverse es l velocities marks ≡ ran_outcome (chain_of inverse (lent_of velocities marks []) es l)
  unfolding outcome_of shift_refusal_of first_broken
  run-through h nine ten = rw (eq-eqb own.number 0 h, nine, ten)

-- a list has as many tuples as a quarter of its numbers
ten_of_tuples : (deforms : Bool) (n : ℕ) (velocities : List Float) (marks : List ℕ) → refusal10 deforms (4 * (n / 4)) velocities marks ≡ refusal10 deforms n velocities marks
unfolding refusal10
ten_of_tuples deforms n velocities marks = let e : 4 * (n / 4) / 4 ≡ n / 4 = omega arith in rw e

-- no rule broken: not the sheet's own, and not 9
by_the_rules : (own : Refusal) (broken nine ten : Bool) → not (eqb own.number 0) ≡ broken
    → (cond broken own (cond nine (of_call 9) (cond ten (of_call 10) accepted))).number ≡ 0 → (own.number ≡ 0) × (nine ≡ false)
by_the_rules own true nine ten e h = absurd (true≢false (sym e ∙ ap (λ (n : ℕ). not (eqb n 0)) h))
by_the_rules own false true ten e h = absurd (not_zero 8 h)
by_the_rules own false false ten e h = (eqb-true _ _ (not-false _ e), refl)

pub call_kept : (own : Refusal) (nine deforms : Bool) (numbers : ℕ) (velocities : List Float) (marks : List ℕ)
    → (call_refusal_of own nine deforms numbers velocities marks).number ≡ 0 → (own.number ≡ 0) × (nine ≡ false)
unfolding first_broken
call_kept own nine deforms numbers velocities marks h = by_the_rules own _ nine _ refl h

-- ---- what a function hands out, and the list that it leaves

pub hands_out_a_refusal : (r : Refusal) → (r.number ≡ 0 → ⊥) → handed_out (refused_answer r) ≡ Err r
hands_out_a_refusal r h = refuses r _ h

pub hands_out_tallies : (tallies : List Tally) → handed_out (ran_answer tallies) ≡ Ok tallies
unfolding unless
hands_out_tallies tallies = refl

abbrev pub Told : Result (List Tally) Refusal → List Float → Outcome → Type 0
Told result l o = (result ≡ handed_out o.answer) × (l ≡ o.list)

pub told_refused : {result : Result (List Tally) Refusal} {l : List Float} {o : Outcome} (r : Refusal) → o ≡ outcome (refused_answer r) l → (r.number ≡ 0 → ⊥)
    → result ≡ Err r → Told result l o
told_refused r e h p = rw e (p ∙ sym (hands_out_a_refusal r h), refl)

pub told-ran : {tallies : List Tally} {l : List Float} {o : Outcome} (run : Run) → o ≡ ran_outcome run → tallies ≡ places_of run.tallies → l ≡ run.list
    → Told (Ok tallies) l o
told-ran run e p q = rw e (ap Ok p ∙ sym (hands_out_tallies (places_of run.tallies)), q)

-- ---- a flat list, by the refusal of a call

pub flat-refusal : (own : Refusal) (deforms : Bool) (l velocities : List Float) (marks : List ℕ) {nine : Bool} → nine ≡ refusal9 (length l)
    → shift_refusal_of own deforms l velocities marks ≡ call_refusal_of own nine deforms (4 * (length l / 4)) velocities marks
unfolding shift_refusal_of
flat-refusal own deforms l velocities marks e = rw (e, ten_of_tuples deforms (length l) velocities marks)

module _ (own : Refusal) (deforms inverse : Bool) (es : List Entry) (l velocities : List Float) (marks : List ℕ) where
  pub refused-by : (r : Refusal) → shift_refusal_of own deforms l velocities marks ≡ r → (r.number ≡ 0 → ⊥)
      → outcome_of own deforms inverse es l velocities marks ≡ outcome (refused_answer r) l
  unfolding outcome_of
  refused-by r e h = rw (e, ne_eqb r.number 0 h)

  pub run-by : (r : Refusal) → shift_refusal_of own deforms l velocities marks ≡ r → r.number ≡ 0
      → outcome_of own deforms inverse es l velocities marks ≡ ran_outcome (chain_of inverse (lent_of velocities marks []) es l)
  unfolding outcome_of
  run-by r e h = rw (e, eq-eqb r.number 0 h)

-- ---- refused: counts zero, and the list holds what it held

pub refused_leaves_the_list : (own : Refusal) (deforms inverse : Bool) (es : List Entry) (l velocities : List Float) (marks : List ℕ)
    → ((shift_refusal_of own deforms l velocities marks).number ≡ 0 → ⊥)
    → outcome_of own deforms inverse es l velocities marks ≡ outcome (refused_answer (shift_refusal_of own deforms l velocities marks)) l
unfolding outcome_of
refused_leaves_the_list own deforms inverse es l velocities marks h = rw (ne_eqb (shift_refusal_of own deforms l velocities marks).number 0 h)
