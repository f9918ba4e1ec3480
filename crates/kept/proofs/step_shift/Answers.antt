-- One case for each variant. Calls are replaced by what they ensure; the definition is left.
-- Assumes nothing.
use Rattle.kept.proofs.step_shift.Goals as goal

pub returns-in-Helmert : goal.returns-in-Helmert
returns-in-Helmert c = rw c.in-Helmert.is c.prepare.ensures

pub returns-in-Badekas : goal.returns-in-Badekas
returns-in-Badekas c = rw c.in-Badekas.is c.prepare-in-Badekas.ensures
