-- What a rescue hands to C: done, the word is 0 (`clear`); refused, no word was changed. Assumes
-- nothing.
use native.Mathlib.Omega.{arith}
use mathlib.Core.Path.{◌≡◌, refl}
use Prim.Native.Nat.{ℕ}
use mathlib.Core.Bool.{Bool, true, false}
use mathlib.Core.List.{List}
use borrow.Author.Tests.{eqb-true}
use lib.Dec.{eqb}
use lib.ListN.{length}
use Rattle.std.specs.Prelude.{Result, Ok, Err}
use Rattle.sheet.specs.declared.Refusal.{Refusal}
use Rattle.sheet.specs.Rules.{unless}
use Rattle.sheet.proofs.Order.{Numbered, without_rule, numbered_reader}
use Rattle.sheet.proofs.Unless.{passed_value, failed}
use Rattle.rescue.specs.Rebuilt.{rebuilt_of}
use Rattle.rescue.specs.Rules.{RescueOutcome, rescue_order, rescue_refusal_of, rescue_of}
use Rattle.codes.specs.Codes.{code_of}
use Rattle.codes.proofs.Clear.{Clear, clear_first, done, refused}
use Rattle.sillfeather.specs.Codes.{mended, mended_of}

numbered : (s : List ℕ) (room list : ℕ) → Numbered (rescue_order s room list)
unfolding rescue_order
numbered s room list = without_rule 19 (λ e. omega arith) (without_rule 15 (λ e. omega arith) (numbered_reader (rebuilt_of s)))

clear-refusal : (s : List ℕ) (room list : ℕ) → Clear (rescue_refusal_of s room list)
unfolding rescue_refusal_of
clear-refusal s room list = clear_first (rescue_order s room list) (numbered s room list)

module _ (s room list : List ℕ) where
  abbrev o : RescueOutcome
  o = rescue_of s room list

  by-test : (ran : Bool) → eqb (rescue_refusal_of s (length room) (length list)).number 0 ≡ ran
      → Clear o.answer.refusal × ((o.answer.refusal.number ≡ 0 → ⊥) → o.answer.changed ≡ 0)
  unfolding rescue_of
  by-test true e = rw e (clear-refusal s (length room) (length list), λ h. absurd (h (eqb-true _ _ e)))
  by-test false e = rw e (clear-refusal s (length room) (length list), λ h. refl)

  module _ {out : Result ℕ Refusal} {room' list' : List ℕ} (e : (out ≡ unless o.answer.refusal o.answer.changed) × ((room' ≡ o.room) × (list' ≡ o.list))) where
    pub done-mended : {n : ℕ} → out ≡ Ok n → mended 0 n room' list' ≡ mended_of o
    done-mended ok = rw (passed_value _ _ e.0 ok, e.1.0, e.1.1, done _ _ (by-test _ refl).0 e.0 ok)

    pub refused-mended : {r : Refusal} → out ≡ Err r → mended (code_of r) 0 room' list' ≡ mended_of o
    refused-mended err = rw (refused _ _ e.0 err, e.1.0, e.1.1, (by-test _ refl).1 (failed _ _ e.0 err))
