-- What a kept run and a correction hand to C: done, the word is 0 (`clear_keep`, `clear-correct`);
-- refused, no fix was redone. Assumes nothing.
use native.Mathlib.Omega.{arith}
use mathlib.Core.Path.{◌≡◌, refl}
use Prim.Native.Nat.{ℕ}
use mathlib.Core.Bool.{Bool, true, false}
use mathlib.Core.List.{List, []}
use borrow.Author.Tests.{eqb-true}
use lib.Dec.{eqb}
use lib.ListN.{length}
use Rattle.std.specs.Prelude.{Result, Ok, Err}
use Rattle.tuple.specs.declared.Tuple.{Tuple}
use Rattle.sheet.specs.declared.Refusal.{Refusal}
use Rattle.sheet.specs.Rules.{Rule}
use Rattle.sheet.proofs.Order.{Without, Numbered, without_rule, own_without}
use Rattle.sheet.proofs.Unless.{passed_value, failed}
use Rattle.stretch.specs.Kept.{Kept}
use Rattle.kept.specs.Entries.{kept_order, keep_refusal_of, correct_refusal_of, CorrectOutcome, correct_of, redone_in}
use Rattle.codes.specs.Codes.{code_of}
use Rattle.codes.proofs.Clear.{Clear, clear_first, done, refused}
use Rattle.sillfeather.specs.Codes.{corrected, corrected_of}

numbered : (s : List ℕ) (list results track : ℕ) (later : List Rule) → Numbered later → Numbered (kept_order s list results track later)
numbered s list results track later n =
    Without.next (own_without 0 (λ a b. omega arith) (λ e. omega arith) s)
    (without_rule 12 (λ e. omega arith) (without_rule 9 (λ e. omega arith) (without_rule 13 (λ e. omega arith) n)))

pub clear_keep : (s : List ℕ) (old : Kept) → Clear (keep_refusal_of s old)
unfolding keep_refusal_of
clear_keep s old = clear_first _ (numbered s (length old.list) (length old.results) (length old.track) [] Without.none)

module _ (inverse : Bool) (s : List ℕ) (old : Kept) (index : ℕ) (fix : Tuple) where
  clear-refusal : Clear (correct_refusal_of s old index)
  unfolding correct_refusal_of
  clear-refusal = clear_first _ (numbered s (length old.list) (length old.results) (length old.track) _ (without_rule 14 (λ e. omega arith) Without.none))

  abbrev o : CorrectOutcome
  o = correct_of inverse s old index fix

  by-test : (ran : Bool) → eqb (correct_refusal_of s old index).number 0 ≡ ran
      → Clear o.answer.refusal × ((o.answer.refusal.number ≡ 0 → ⊥) → o.answer.redone ≡ 0)
  unfolding correct_of
  by-test true e = rw e (clear-refusal, λ h. absurd (h (eqb-true _ _ e)))
  by-test false e = rw e (clear-refusal, λ h. refl)

  module _ {out : Result ℕ Refusal} {after : Kept} (e : (out ≡ redone_in o.answer) × (after ≡ o.kept)) where
    pub done-corrected : {n : ℕ} → out ≡ Ok n → corrected 0 n after ≡ corrected_of o
    done-corrected ok = rw (passed_value _ _ e.0 ok, e.1, done _ _ (by-test _ refl).0 e.0 ok)

    pub refused-corrected : {r : Refusal} → out ≡ Err r → corrected (code_of r) 0 after ≡ corrected_of o
    refused-corrected err = rw (refused _ _ e.0 err, e.1, (by-test _ refl).1 (failed _ _ e.0 err))
