-- By `length-small`, from what the calls ensure. Assumes nothing.
use Rattle.sheet_writer.proofs.Writing.{length-small}
use mathlib.Core.Path.{refl}
use Rattle.sheet_writer.proofs.length_in.Goals as goal

pub returns : goal.returns
returns c = rw (c.wide.ensures.0, c.length_of.ensures, c.kind_in.ensures) (refl, length-small _)
