-- Calls are replaced by what they ensure; the definition is left. Assumes nothing.
use Rattle.vectors.specs.Replay.{compared_of}
use Rattle.vectors.proofs.record.compared_words.Goals as goal

pub returns : goal.returns
unfolding compared_of
returns c = rw (c.differing_numbers.ensures.0, c.differing_counts.ensures.0, c.differing-2.ensures.0, c.wide64-4.ensures.0, c.read32-2.ensures, c.wide64-3.ensures.0, c.differing.ensures.0, c.wide64-2.ensures.0, c.read32.ensures, c.wide64.ensures.0, c.counts-counts.ensures)
