-- One case with flag 2, where the direction is turned round, and one without. Assumes nothing.
use Rattle.deformation.specs.Record.{directed_of}
use Rattle.deformation.proofs.Deformation.directed.Goals as goal

pub returns-then-by_comment : goal.returns-then-by_comment
unfolding directed_of
returns-then-by_comment c = rw (← c.by_comment.ensures, c.if-by_comment.true)

pub returns-else-by_comment : goal.returns-else-by_comment
unfolding directed_of
returns-else-by_comment c = rw (← c.by_comment.ensures, c.if-by_comment.false)
