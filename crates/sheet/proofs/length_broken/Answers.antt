-- Calls are replaced by what they ensure; the definition is left. Assumes nothing.
use Rattle.sheet.specs.Rules.{refusal1}
use Rattle.sheet.proofs.length_broken.Goals as goal

pub returns : goal.returns
unfolding refusal1
returns c = rw (c.wide.ensures.0, c.read32.ensures)
