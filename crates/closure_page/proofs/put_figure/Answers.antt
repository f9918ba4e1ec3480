-- One case each for 0, a number below 2^52 and any other. Assumes nothing.
use borrow.Author.Tests.{eq-eqb, ne_eqb}
use Rattle.closure_page.specs.Page.{figure_text}
use Rattle.closure_page.proofs.put_figure.Goals as goal

pub returns-then-pattern-eq0 : goal.returns-then-pattern-eq0
unfolding figure_text
returns-then-pattern-eq0 c = rw (eq-eqb _ _ c.if-pattern-eq0.true) c.put_bytes.ensures

pub returns-then-x : goal.returns-then-x
unfolding figure_text
returns-then-x c = rw (ne_eqb _ 0 c.if-pattern-eq0.false, ← c.of_bits-x.ensures, c.if-x.true) c.put_below.ensures

pub returns : goal.returns
unfolding figure_text
returns c = rw (ne_eqb _ 0 c.if-pattern-eq0.false, ← c.of_bits-x.ensures, c.if-x.false) c.put_bytes-2.ensures
