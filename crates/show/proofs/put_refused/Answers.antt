-- One case for each way through the tests. Each by `then`, from what the calls ensure.
-- Assumes nothing.
use borrow.Author.Tests.{eq-eqb, ne_eqb}
use Rattle.text.proofs.Laws.{then}
use Rattle.show.specs.Show.{refused_text}
use Rattle.show.proofs.put_refused.Goals as goal

pub returns-then-step-eq0 : goal.returns-then-step-eq0
unfolding refused_text
returns-then-step-eq0 c = rw (eq-eqb _ _ c.if-step-eq0.true) (then _ _ _ (rw c.rule_words.ensures at c.put_refusal-p.ensures) c.put_sheet_place.ensures)

pub returns : goal.returns
unfolding refused_text
returns c =
    rw (ne_eqb _ _ c.if-step-eq0.false)
    (then _ _ _ (rw c.rule_words.ensures at c.put_refusal-p.ensures) c.put_step_place.ensures)
