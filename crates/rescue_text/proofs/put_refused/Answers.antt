-- The words are the table's; the definition is left. Assumes nothing.
use Rattle.rescue_text.specs.RescueText.{refused_text}
use Rattle.rescue_text.proofs.put_refused.Goals as goal

pub returns : goal.returns
unfolding refused_text
returns c = rw c.refusal_words.ensures at c.put_refusal.ensures
