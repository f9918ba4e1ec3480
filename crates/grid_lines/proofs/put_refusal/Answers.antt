-- One case for each number; by `then`, from what the calls ensure. Assumes nothing.
use borrow.Author.Tests.{eq-eqb, ne_eqb}
use Rattle.text.proofs.Laws.{then}
use Rattle.grid_lines.specs.Lines.{refusal_text}
use Rattle.grid_lines.proofs.put_refusal.Goals as goal

pub returns-then-number-eq17 : goal.returns-then-number-eq17
unfolding refusal_text
returns-then-number-eq17 c = rw (eq-eqb _ _ c.if-number-eq17.true, ← c.layout_place.ensures, ← c.long.ensures) (then _ _ _ c.put_bytes-p.ensures c.put_count.ensures)

pub returns : goal.returns
unfolding refusal_text
returns c = rw (ne_eqb _ _ c.if-number-eq17.false, ← c.number_place.ensures, ← c.long-2.ensures) (then _ _ _ c.put_bytes-p-2.ensures c.put_count-2.ensures)
