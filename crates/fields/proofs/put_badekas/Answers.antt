-- By `then`, from what the calls ensure. Assumes nothing.
use Rattle.text.proofs.Laws.{then}
use Rattle.fields.specs.Fields.{badekas_text}
use Rattle.fields.proofs.Flags.{badekas}
use Rattle.fields.proofs.put_badekas.Goals as goal

pub returns : goal.returns
unfolding badekas_text
returns c = rw (← c.word_in-flags.ensures, ← c.word_in-convention.ensures) (then _ _ _ (then _ _ _ (rw (badekas _) at c.put_flags-p.ensures) c.put_convention-q.ensures) c.put_badekas_numbers.ensures)
