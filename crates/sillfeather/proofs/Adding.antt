-- What a step added hands to C: where it is refused the length is what it was, and where it is not
-- the word is 0. Assumes nothing.
use mathlib.Core.Path.{◌≡◌, refl, ap}
use Prim.Native.Nat.{ℕ}
use mathlib.Core.Bool.{Bool, true, false}
use mathlib.Core.List.{List}
use borrow.Author.Tests.{eqb-false}
use lib.Dec.{eqb}
use lib.ListN.{length}
use Rattle.std.specs.Prelude.{Result, Ok, Err}
use Rattle.bodies.specs.declared.Step.{Step}
use Rattle.sheet.specs.declared.Refusal.{Refusal}
use Rattle.sheet.specs.declared.Sheet.{Sheet}
use Rattle.sheet.specs.Rules.{unless}
use Rattle.sheet.proofs.Unless.{passed_value, failed}
use Rattle.sheet_writer.specs.Rules.{writer_order, writer_refusal_of}
use Rattle.sheet_writer.proofs.WriterOrder.{numbered-writer}
use Rattle.making.specs.Adding.{AddOutcome, standing_of, with_step_of, written_as, added_of}
use Rattle.making.proofs.Laws.{refused-leaves-the-room}
use Rattle.codes.specs.Codes.{code_of}
use Rattle.codes.proofs.Clear.{Clear, clear_first, done, refused}
use Rattle.sillfeather.specs.Codes.{made, made_of}

clear_writer : (sheet : Sheet) (room : ℕ) → Clear (writer_refusal_of sheet room)
unfolding writer_refusal_of
clear_writer sheet room = clear_first (writer_order sheet room) (numbered-writer sheet room)

module _ (room : List ℕ) (len inverted : ℕ) (step : Step) where
  by_test : (stands : Bool) → eqb (standing_of room len).refusal.number 0 ≡ stands → Clear (added_of room len inverted step).answer.refusal
  unfolding added_of written_as
  by_test true e = rw e (clear_writer (with_step_of (standing_of room len).sheet inverted step) (length room))
  by_test false e = rw e (λ z. absurd (eqb-false _ _ e z))

  clear : Clear (added_of room len inverted step).answer.refusal
  clear = by_test _ refl

  abbrev o : AddOutcome
  o = added_of room len inverted step

  module _ {out : Result ℕ Refusal} {after : List ℕ} (e : (out ≡ unless o.answer.refusal o.answer.length) × (after ≡ o.room)) where
    pub done-made : {n : ℕ} → out ≡ Ok n → made 0 n after ≡ made_of o
    done-made ok = rw (passed_value _ _ e.0 ok, e.1, done _ _ clear e.0 ok)

    pub refused-made : {r : Refusal} → out ≡ Err r → made (code_of r) len after ≡ made_of o
    refused-made err =
        let was : o.answer.length ≡ len = ap (λ (x : AddOutcome). x.answer.length) (refused-leaves-the-room room len inverted step (failed _ _ e.0 err)) in
        rw (refused _ _ e.0 err, e.1, was)
