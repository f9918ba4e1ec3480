-- By `then`, from what the calls ensure. Assumes nothing.
use Rattle.text.proofs.Laws.{then}
use Rattle.closure_page.specs.Page.{coordinates_text}
use Rattle.closure_page.proofs.put_coordinates.Goals as goal

pub returns : goal.returns
unfolding coordinates_text
returns c = (then _ _ _ (then _ _ _ (then _ _ _ c.put_angle-p.ensures c.put_angle-q.ensures) c.put_largest-s.ensures) c.put_largest.ensures)
