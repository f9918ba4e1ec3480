-- P1 to P12 hold of the definitions: each is evaluated in the crate that it is about, and here they
-- stand together. Assumes nothing.
use Rattle.chain.proofs.MarkedPoints.{marked_points}
use Rattle.kept.proofs.MarkedPoints.{p6}
use Rattle.answer.proofs.Examples.{p1_complete}
use Rattle.points.specs.MarkedPoints.{P1ToP12}

pub P1_to_P12 : P1ToP12
P1_to_P12 = (marked_points, p6, p1_complete)
