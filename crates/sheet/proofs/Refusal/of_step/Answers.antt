-- The two branches are `of_index`'s own. Assumes nothing.
use borrow.Author.Tests.{lt-ltb, le-ltb}
use Rattle.sheet.specs.Rules.{of_index}
use Rattle.sheet.proofs.Refusal.of_step.Goals as goal

pub returns-then-i-lt16 : goal.returns-then-i-lt16
unfolding of_index
returns-then-i-lt16 c = rw (lt-ltb _ _ c.if-i-lt16.true)

pub returns : goal.returns
unfolding of_index
returns c = rw (c.of_call.ensures, le-ltb _ _ c.if-i-lt16.false)
