-- What a result tells: the refusal's number and its step.
use Rattle.std.specs.Prelude.{◌≡◌, ◌/◌, ◌%◌}
use Rattle.sheet.specs.declared.Refusal.{Refusal}
use Rattle.codes.specs.Codes.{code_of}

-- what a caller takes out of a result: the number is the low half, the step the high one
pub record Told (r : Refusal) : Type 0 where
  pub number : code_of r % 65536 ≡ r.number
  pub step : code_of r / 65536 ≡ r.step
