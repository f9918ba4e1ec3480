-- One case each. Assumes nothing.
use borrow.Author.Rules.{rules}
use borrow.Author.Tests.{lt-ltb, le-ltb}
use Rattle.deformation_columns.proofs.lent_from.Goals as goal

pub returns-then-first-lt-BEYOND : goal.returns-then-first-lt-BEYOND
returns-then-first-lt-BEYOND c = (rw (lt-ltb _ _ c.if-first-lt-BEYOND.true), search rules)

pub returns : goal.returns
returns c = (rw (le-ltb _ _ c.if-first-lt-BEYOND.false), search rules)
