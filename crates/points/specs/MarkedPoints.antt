-- Document 01's marked points P1 to P12 under one statement: P1 to P5 and P7 to P12 as calls of the
-- chain, P6 as a correction of a kept run, and the text that the program prints for P1.
use Rattle.chain.specs.MarkedPoints.{OfTheChain}
use Rattle.kept.specs.MarkedPoints.{P6}
use Rattle.answer.specs.MarkedPoints.{P1Printed}

abbrev pub P1ToP12 : Type 0
P1ToP12 = OfTheChain × P6 × P1Printed
