-- By the one comparison; the sum is below 2^64 because the pattern lies below 2^63.
-- Assumes nothing.
use Rattle.grid_rules.specs.Patterns.{sign_turned}
use borrow.Author.Tests.{lt-ltb, le-ltb}
use Rattle.grid_rules.proofs.sign_turned.Goals as goal

pub returns-then-p-lt9223372036854775808 : goal.returns-then-p-lt9223372036854775808
unfolding sign_turned
returns-then-p-lt9223372036854775808 c = rw (lt-ltb _ _ c.if-p-lt9223372036854775808.true)

pub returns : goal.returns
unfolding sign_turned
returns c = rw (le-ltb _ _ c.if-p-lt9223372036854775808.false)
