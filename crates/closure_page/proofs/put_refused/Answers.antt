-- The words are the table's; the definition is left. Assumes nothing.
use Rattle.closure_page.specs.Page.{refused_text}
use Rattle.closure_page.proofs.put_refused.Goals as goal

pub returns : goal.returns
unfolding refused_text
returns c = rw c.refusal_words.ensures at c.put_refusal.ensures
