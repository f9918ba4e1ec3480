-- Either way `answer_in` is the answer that is compared: with no refusal, or with no tallies.
-- Assumes nothing.
use Rattle.std.proofs.Common.{◌∙◌}
use Rattle.vectors.proofs.record.compared.Goals as goal

pub returns-in-Ok : goal.returns-in-Ok
returns-in-Ok c = c.compared_words.ensures ∙ rw (c.in-Ok.is, c.none.ensures)

pub returns-in-Err : goal.returns-in-Err
returns-in-Err c = c.compared_words-in-Err.ensures ∙ rw (c.in-Err.is, c.none-in-Err.ensures)
