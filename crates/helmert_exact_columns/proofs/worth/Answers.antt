-- One case for each way through the tests, by arithmetic on the bounds at hand. Assumes nothing.
use borrow.Author.Rules.{rules}
use mathlib.Core.Path.{sym}
use mathlib.Core.Bool.{true≢false}
use Rattle.helmert_exact_columns.proofs.worth.Goals as goal

pub returns-then-t-i-lt16 : goal.returns-then-t-i-lt16
returns-then-t-i-lt16 c = λ e. absurd (true≢false (sym e))

pub returns-then-own : goal.returns-then-own
returns-then-own c = λ e. (c.if-shift.true, search rules)

pub returns-then-shift : goal.returns-then-shift
returns-then-shift c = λ e. (c.if-shift.true, search rules)

pub returns : goal.returns
returns c = λ e. absurd (true≢false (sym e))
