-- Where fewer are left the answer is no, and else the test has told. Assumes nothing.
use borrow.Author.Rules.{rules}
use mathlib.Core.Path.{sym}
use mathlib.Core.Bool.{true≢false}
use Rattle.helmert_running_columns.proofs.worth.Goals as goal

pub returns-then-t-i-lt16 : goal.returns-then-t-i-lt16
returns-then-t-i-lt16 c = λ e. absurd (true≢false (sym e))

pub returns : goal.returns
returns c = λ e. search rules
