-- The digits and places are what `four_of` ensures. Assumes nothing.
use Rattle.closure_page.specs.Page.{below_text}
use Rattle.closure_page.proofs.put_below.Goals as goal

pub returns : goal.returns
unfolding below_text
returns c = rw (← c.four_of-four.ensures.1, ← c.four_of-four.ensures.0) c.put_four.ensures
