-- One case for each way through the tests. The facts at hand are what is asked. Assumes nothing.
use Rattle.thin.proofs.place_of.Goals as goal

pub returns-then-inverse : goal.returns-then-inverse
returns-then-inverse c = rw c.if-inverse.true
