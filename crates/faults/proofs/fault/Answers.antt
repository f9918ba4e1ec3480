-- The tests are asked in `fault_of`'s order; past the last of them the search over the entries
-- answers. Assumes nothing.
use borrow.Author.Rules.{rules}
use borrow.Author.Tests.{eq-eqb, ne_eqb, lt-ltb, le-ltb}
use Rattle.faults.specs.Faults.{fault_of}
use Rattle.faults.proofs.fault.Goals as goal

pub returns-then-wide-ne-HEADER : goal.returns-then-wide-ne-HEADER
unfolding fault_of
returns-then-wide-ne-HEADER c = (rw (← c.read32.ensures, ← c.wide.ensures.0, ne_eqb _ _ c.if-wide-ne-HEADER.true), search rules)

pub returns-then-n-gt16 : goal.returns-then-n-gt16
unfolding fault_of
returns-then-n-gt16 c = (
  rw (
    ← c.read32.ensures,
    ← c.wide.ensures.0,
    eq-eqb _ _ c.if-wide-ne-HEADER.false,
    ← c.step_count-n.ensures.0,
    lt-ltb _ _ c.if-n-gt16.true,
  ),
  search rules,
)

pub returns-then-s-directory_end : goal.returns-then-s-directory_end
unfolding fault_of
returns-then-s-directory_end c = (
  rw (
    ← c.read32.ensures,
    ← c.wide.ensures.0,
    eq-eqb _ _ c.if-wide-ne-HEADER.false,
    ← c.step_count-n.ensures.0,
    le-ltb _ _ c.if-n-gt16.false,
    c.step_count-n.ensures.0,
    ← c.read32-2.ensures,
    ← c.directory_end.ensures.0,
    lt-ltb _ _ c.if-s-directory_end.true,
  ),
  search rules,
)

pub returns : goal.returns
unfolding fault_of
returns c = (
  rw (
    ← c.read32.ensures,
    ← c.wide.ensures.0,
    eq-eqb _ _ c.if-wide-ne-HEADER.false,
    ← c.step_count-n.ensures.0,
    le-ltb _ _ c.if-n-gt16.false,
    c.step_count-n.ensures.0,
    ← c.read32-2.ensures,
    ← c.directory_end.ensures.0,
    le-ltb _ _ c.if-s-directory_end.false,
    c.read32-2.ensures,
    ← c.step_count-n.ensures.0,
  )
      c.first_fault.ensures.0,
  c.first_fault.ensures.1,
)
