-- One case for each variant. Each by `then`, from what the calls ensure. Assumes nothing.
use Rattle.text.proofs.Laws.{then}
use Rattle.figures.specs.Figures.{number_text, either_text}
use Rattle.figures.proofs.put_number.Goals as goal

pub returns-in-Some : goal.returns-in-Some
unfolding number_text either_text
returns-in-Some c = rw (← c.of_bits.ensures, ← c.fewest_places.ensures, c.in-Some.is) c.put_fixed.ensures

pub returns-in-None : goal.returns-in-None
unfolding number_text either_text
returns-in-None c = rw (← c.of_bits.ensures, ← c.fewest_places.ensures, c.in-None.is) (then _ _ _ c.put_bytes-p.ensures c.put_hex.ensures)
