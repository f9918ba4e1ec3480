-- What each call leaves its caller in C: the refusal as one word, the numbers, and what it was lent.
use Rattle.std.specs.Prelude.{ℕ, List, Option, Some, None, Float}
use Rattle.trig.specs.declared.SinCos.{SinCos}
use Rattle.codes.specs.Codes.{code_of}
use Rattle.tally.specs.Tallies.{counts_of, mets_of}
use Rattle.columns.specs.Columns.{Columns}
use Rattle.chain.specs.Rules.{Outcome}
use Rattle.chain.specs.Columns.{ColumnsOutcome}
use Rattle.stretch.specs.Kept.{Kept}
use Rattle.stretch.specs.KeptColumns.{KeptColumns}
use Rattle.kept.specs.Entries.{CorrectOutcome}
use Rattle.kept_columns.specs.Columns.{CorrectColumnsOutcome}

-- sine and cosine: 0 and the pair; or 1, out of reach, and the two numbers as they were
pub record SineTold : Type 0 where
  pub code : ℕ
  pub sine : Float
  pub cosine : Float

abbrev pub sine_told : ℕ → Float → Float → SineTold
sine_told code sine cosine = record { code = code; sine = sine; cosine = cosine }

abbrev pub sine_told_of : Option SinCos → Float → Float → SineTold
sine_told_of (Some p) sine cosine = sine_told 0 p.s p.c
sine_told_of None sine cosine = sine_told 1 sine cosine

-- a shift: the code, each step's count, how many tuples met an angle out of reach in it, the list
pub record ShiftTold : Type 0 where
  pub code : ℕ
  pub counts : List ℕ
  pub mets : List ℕ
  pub list : List Float

abbrev pub shift_told : ℕ → List ℕ → List ℕ → List Float → ShiftTold
shift_told code counts mets list = record { code = code; counts = counts; mets = mets; list = list }

abbrev pub shift_told_of : Outcome → ShiftTold
shift_told_of o = shift_told (code_of o.answer.refusal) (counts_of o.answer.tallies) (mets_of o.answer.tallies) o.list

-- the same over columns
pub record ColumnsTold : Type 0 where
  pub code : ℕ
  pub counts : List ℕ
  pub mets : List ℕ
  pub columns : Columns

abbrev pub columns_told : ℕ → List ℕ → List ℕ → Columns → ColumnsTold
columns_told code counts mets columns = record { code = code; counts = counts; mets = mets; columns = columns }

abbrev pub columns_told_of : ColumnsOutcome → ColumnsTold
columns_told_of o = columns_told (code_of o.answer.refusal) (counts_of o.answer.tallies) (mets_of o.answer.tallies) o.columns

-- a correction: the code, how many fixes were redone, and the three lists
pub record CorrectTold : Type 0 where
  pub code : ℕ
  pub redone : ℕ
  pub kept : Kept

abbrev pub correct_told : ℕ → ℕ → Kept → CorrectTold
correct_told code redone kept = record { code = code; redone = redone; kept = kept }

abbrev pub correct_told_of : CorrectOutcome → CorrectTold
correct_told_of o = correct_told (code_of o.answer.refusal) o.answer.redone o.kept

-- the same over columns
pub record CorrectColumnsTold : Type 0 where
  pub code : ℕ
  pub redone : ℕ
  pub kept : KeptColumns

abbrev pub correct_columns_told : ℕ → ℕ → KeptColumns → CorrectColumnsTold
correct_columns_told code redone kept = record { code = code; redone = redone; kept = kept }

abbrev pub correct_columns_told_of : CorrectColumnsOutcome → CorrectColumnsTold
correct_columns_told_of o = correct_columns_told (code_of o.answer.refusal) o.answer.redone o.kept
