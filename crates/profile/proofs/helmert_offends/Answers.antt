-- Each call is replaced by what it ensures; the definition is left. Assumes nothing.
use Rattle.profile.specs.Profile.{helmert_offends}
use Rattle.profile.proofs.helmert_offends.Goals as goal

pub returns : goal.returns
unfolding helmert_offends
returns c = rw (c.own_epoch.ensures, c.dynamic.ensures, c.scaled.ensures, c.exact.ensures)
