-- The tests are asked in `entry_fault`'s order, each over the word as it is read. Assumes nothing.
use borrow.Author.Tests.{eq-eqb, ne_eqb, lt-ltb, le-ltb}
use Rattle.faults.specs.Faults.{entry_fault}
use Rattle.faults.proofs.entry_fault.Goals as goal

pub returns-then-length-eq0-clause-fault : goal.returns-then-length-eq0-clause-fault
unfolding entry_fault
returns-then-length-eq0-clause-fault c = rw (← c.kind_at.ensures, ← c.length_of-length.ensures, c.if-length-eq0.true)

pub returns-then-inverted_at-gt1-clause-fault : goal.returns-then-inverted_at-gt1-clause-fault
unfolding entry_fault
returns-then-inverted_at-gt1-clause-fault c = rw (← c.kind_at.ensures, ← c.length_of-length.ensures, ne_eqb _ _ c.if-length-eq0.false, ← c.inverted_at.ensures, lt-ltb _ _ c.if-inverted_at-gt1.true)

pub returns-then-length_at-length-clause-fault : goal.returns-then-length_at-length-clause-fault
unfolding entry_fault
returns-then-length_at-length-clause-fault c = rw (← c.kind_at.ensures, ← c.length_of-length.ensures, ne_eqb _ _ c.if-length-eq0.false, ← c.inverted_at.ensures, le-ltb _ _ c.if-inverted_at-gt1.false, ← c.length_at.ensures, ne_eqb _ _ c.if-length_at-length.true)

pub returns-then-wide-end-clause-fault : goal.returns-then-wide-end-clause-fault
unfolding entry_fault
returns-then-wide-end-clause-fault c = rw (← c.kind_at.ensures, ← c.length_of-length.ensures, ne_eqb _ _ c.if-length-eq0.false, ← c.inverted_at.ensures, le-ltb _ _ c.if-inverted_at-gt1.false, ← c.length_at.ensures, eq-eqb _ _ c.if-length_at-length.false, ← c.offset_at.ensures, ← c.wide.ensures.0, ← c.requires, ne_eqb _ _ c.if-wide-end.true)

pub returns-clause-fault : goal.returns-clause-fault
unfolding entry_fault
returns-clause-fault c = rw (← c.kind_at.ensures, ← c.length_of-length.ensures, ne_eqb _ _ c.if-length-eq0.false, ← c.inverted_at.ensures, le-ltb _ _ c.if-inverted_at-gt1.false, ← c.length_at.ensures, eq-eqb _ _ c.if-length_at-length.false, ← c.offset_at.ensures, ← c.wide.ensures.0, ← c.requires, eq-eqb _ _ c.if-wide-end.false)
