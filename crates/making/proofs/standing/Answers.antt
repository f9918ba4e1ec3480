-- One case for each way through the tests. Calls are replaced by what they ensure; the definition
-- is left. What is read answers by `read_answers`. Assumes nothing.
use native.Mathlib.Omega.{arith}
use mathlib.Core.Path.{sym}
use borrow.Author.Tests.{ne_eqb, eq-eqb, lt-ltb, le-ltb}
use lib.ListN.{length-take}
use Rattle.sheet.specs.Rules.{unless}
use Rattle.sheet.proofs.Unless.{read_answers}
use Rattle.making.specs.Adding.{standing_of}
use Rattle.making.proofs.standing.Goals as goal

pub returns-then-len-eq0 : goal.returns-then-len-eq0
unfolding standing_of unless
returns-then-len-eq0 c = rw (c.blank.ensures, eq-eqb _ _ c.if-len-eq0.true)

pub returns-then-room-len : goal.returns-then-room-len
unfolding standing_of unless
returns-then-room-len c = rw (c.of_call.ensures, ne_eqb _ _ c.if-len-eq0.false, lt-ltb _ _ c.if-room-len.true)

pub slice_bounds-read-end : goal.slice_bounds-read-end
slice_bounds-read-end c = simp length-take (omega arith)

pub returns : goal.returns
unfolding standing_of
returns c = rw (c.read.ensures, ne_eqb _ _ c.if-len-eq0.false, le-ltb _ _ c.if-room-len.false) (sym (read_answers _))
