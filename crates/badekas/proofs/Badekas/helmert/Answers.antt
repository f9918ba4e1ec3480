-- The record of zeros with five fields of this one. Assumes nothing.
use Rattle.helmert.specs.Record.{zeros_with, zero_helmert}
use Rattle.badekas.specs.Record.{helmert_of}
use Rattle.badekas.proofs.Badekas.helmert.Goals as goal

pub returns : goal.returns
unfolding helmert_of zero_helmert zeros_with
returns c = rw c.zeros.ensures
