-- One case for each return. Each by `zero_over_zero` and `no_row`, from what the calls ensure.
-- Assumes nothing.
use borrow.Author.Rules.{rules}
use Rattle.floats.proofs.Nan.{zero_over_zero}
use Rattle.ellipsoid.proofs.Table.{no_row}
use Rattle.ellipsoid.specs.Figure.{named_of}
use Rattle.ellipsoid.proofs.Ellipsoid.named.Goals as goal

pub returns-in-1 : goal.returns-in-1
unfolding named_of
returns-in-1 c = rw (c.new.ensures, c.in-1.is)

pub returns-in-2 : goal.returns-in-2
unfolding named_of
returns-in-2 c = rw (c.new-in-2.ensures, c.in-2.is)

pub returns-in-3 : goal.returns-in-3
unfolding named_of
returns-in-3 c = rw (c.new-in-3.ensures, c.in-3.is)

pub returns-in-4 : goal.returns-in-4
unfolding named_of
returns-in-4 c = rw (c.new-in-4.ensures, c.in-4.is)

pub returns-in-5 : goal.returns-in-5
unfolding named_of
returns-in-5 c = rw (c.new-in-5.ensures, c.in-5.is)

pub returns-in_default : goal.returns-in_default
unfolding named_of
returns-in_default c =
    rw (
      c.new-in_default.ensures,
      zero_over_zero,
      no_row c.args.number (search rules) (search rules) (search rules) (search rules) (search rules),
    )
