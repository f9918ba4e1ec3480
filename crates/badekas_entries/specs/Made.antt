-- What adding a step leaves to C: the code, the sheet's length and the room.
use Rattle.std.specs.Prelude.{ℕ, List}
use Rattle.codes.specs.Codes.{code_of}
use Rattle.making.specs.Adding.{AddOutcome}

pub record Made : Type 0 where
  pub code : ℕ
  pub length : ℕ
  pub room : List ℕ

abbrev pub made : ℕ → ℕ → List ℕ → Made
made code length room = record { code = code; length = length; room = room }

abbrev pub made_of : AddOutcome → Made
made_of o = made (code_of o.answer.refusal) o.answer.length o.room
