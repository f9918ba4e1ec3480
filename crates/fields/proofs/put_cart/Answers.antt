-- By `then`, from what the calls ensure. Assumes nothing.
use Rattle.text.proofs.Laws.{then}
use Rattle.fields.specs.Fields.{cart_text}
use Rattle.fields.proofs.put_cart.Goals as goal

pub returns : goal.returns
unfolding cart_text
returns c = then _ _ _ c.put_ellipsoid-p.ensures c.put_word.ensures
