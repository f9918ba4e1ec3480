-- Calls are replaced by what they ensure; the definition is left. Assumes nothing.
use Rattle.lines.specs.Lines.{winner_text}
use Rattle.lines.proofs.put_winner.Goals as goal

pub returns : goal.returns
unfolding winner_text
returns c = rw (← c.number-a.ensures, ← c.number-b.ensures, ← c.winner.ensures, ← c.to_bits.ensures) c.put_number.ensures
