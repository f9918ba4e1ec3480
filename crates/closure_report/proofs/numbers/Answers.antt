-- The sixteen numbers in their order. Assumes nothing.
use mathlib.Core.Path.{refl}
use Rattle.closure_report.specs.Report.{numbers_of}
use Rattle.closure_report.proofs.numbers.Goals as goal

pub returns : goal.returns
unfolding numbers_of
returns c = refl
